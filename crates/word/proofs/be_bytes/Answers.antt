-- `word::be_bytes` meets its contract: the library cuts the highest byte too, which is a byte as it is. Assumes nothing.
use Rattle.std.proofs.Common.{◌≡◌, ap, ◌∙◌, ℕ, ◌/◌, ◌%◌, ◌^◌, [], ◌∷◌, arith}
use Rattle.format.specs.Word.{to_be32}
use Rattle.word.proofs.be_bytes.Goals as goal

pub returns : goal.returns
unfolding to_be32
returns c =
    let v : ℕ = c.args.v in
    let top : v / 2 ^ 24 % 2 ^ 8 ≡ v / 2 ^ 24 = omega arith in
    c.to_be_bytes.ensures ∙ ap (λ (x : ℕ). x ∷ (v / 2 ^ 16 % 2 ^ 8) ∷ (v / 2 ^ 8 % 2 ^ 8) ∷ (v % 2 ^ 8) ∷ []) top
