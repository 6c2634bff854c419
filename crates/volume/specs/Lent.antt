-- What making a volume of lent bytes answers. Assumes nothing.
use Rattle.std.specs.Prelude.{◌≡◌, false, List, ℕ, Result, Ok, Err}
use Rattle.format.specs.Volume.{volume_fits}
use Rattle.format.specs.declared.Geometry.{Geometry}
use Rattle.format.specs.declared.Refusal.{Refusal}
use Rattle.format.specs.declared.Refusal.TheVariants.{Invalid}
use Rattle.volume.specs.declared.Volume.{Volume}

-- bytes that fit are the volume's, and others are -22
abbrev pub Lends : Geometry → List ℕ → Result Volume Refusal → Type 0
Lends g vol (Ok v) = (v.g ≡ g) × (v.bytes.now ≡ vol)
Lends g vol (Err r) = (volume_fits g vol ≡ false) × (r ≡ Invalid)
