-- The site coefficients. Assumes nothing.
use Rattle.std.specs.Prelude.{ℕ}
use Rattle.loading.specs.declared.loads.Site.{Site}
use Rattle.loading.specs.declared.loads.Site.TheVariants.{I, II, III, IV}

-- in tenths
abbrev pub site_tenths : Site → ℕ
site_tenths I = 10
site_tenths II = 15
site_tenths III = 20
site_tenths IV = 27
