-- The stores of a function to annotated cells, in the order in which they stand in the text.
use Rattle.std.specs.Prelude.{ℕ, List, map}
use Rattle.rc_rlang.specs.declared.order.Order.TheVariants.{Text}
use Rattle.rc_rlang.specs.RegionCode.{Code}
use Rattle.rc_rlang.specs.Sites.{Site, code_sites}
use Rattle.rc_reports.specs.declared.site.Site.{Site as CodeSite}

abbrev pub listed : Code → (here : ℕ) → List Site
listed code here = code_sites Text code here

-- sites in code stand for those of the definitions
abbrev pub site_of : CodeSite → Site
site_of s = record { point = s.point; line = s.line; note = s.note }

abbrev pub sites_of : List CodeSite → List Site
sites_of sites = map site_of sites
