-- Demand 2, of `lfs_dir_find`: its contract decides, it refuses by these numbers and no others, and what C gets of an
-- answer, its number, whether a slot was found and the id, determines it. One exception: -2 comes without the record and
-- the seed, as the fixed shape of the C call has no place for them; fetch gives them. Assumes nothing.
use Rattle.std.specs.Prelude.{◌≡◌, refl, ◌≢◌, Bool, not, cond, List, [], ◌∷◌, ℕ, suc, ℤ, pos, neg_ℤ, Err, None, Ok, Option, Result, Some}
use Rattle.format.specs.Log.{log}
use Rattle.format.specs.Fetch.{fetch_of}
use Rattle.format.specs.Regular.{Regular, rules_of}
use Rattle.format.specs.Directory.{Slot, dir_of}
use Rattle.format.specs.Writer.{block_at, is_second}
use Rattle.format.specs.Walk.{Event}
use Rattle.format.specs.Find.{is_named, first_named, find_in, find_fetched, askable, find_of}
use Rattle.format.specs.FindText.{find_text_as}
use Rattle.format.specs.Answer.{zero_mdir, result_number, named_found, named_id}
use Rattle.format.specs.declared.Geometry.{Geometry}
use Rattle.format.specs.declared.LfsPair.{LfsPair}
use Rattle.format.specs.declared.Rules.{Rules}
use Rattle.format.specs.declared.Refusal.{Refusal}
use Rattle.format.specs.declared.Refusal.TheVariants.{Irregular, TooMany}
use Rattle.promises.specs.Decided.{Decides, decided, TextDecided, text_decided}
use Rattle.promises.specs.Possible.{FetchRefuses, fetch22, fetch84, fetch2, AnswerOr, through, fetch_possible}
use Rattle.promises.specs.Numbers.{answer_from}
use Rattle.format.specs.declared.Fetched.{Fetched}
use Rattle.format.specs.Record.{fetched}

-- ---- "-22 (sizes, numbers, empty name), fetch's own, -202"
pub data FindRefuses : Refusal → Type 0 where
  find_fetch : {r : Refusal} → FetchRefuses r → FindRefuses r
  find202 : FindRefuses Irregular

first_possible : (name : List ℕ) (type id : ℕ) (D : List Slot) → AnswerOr FindRefuses (first_named name type id D)
unfolding first_named
first_possible name type id [] = tt
first_possible name type id (s ∷ D) =
    through (AnswerOr FindRefuses) (is_named name type (s 0)) tt (first_possible name type (suc id) D)

in_possible : (r : Rules) (name : List ℕ) (type : ℕ) (es : List Event) → AnswerOr FindRefuses (find_in r name type es)
unfolding find_in
in_possible r name type es =
    through (AnswerOr FindRefuses) (Regular r es) (first_possible name type 0 (dir_of es)) find202

fetched_possible : (r : Rules) (name : List ℕ) (type : ℕ) (b0 b1 : List ℕ) (n0 : ℕ) (f : Result Fetched Refusal)
    → AnswerOr FetchRefuses f → AnswerOr FindRefuses (find_fetched r name type b0 b1 n0 f)
fetched_possible r name type b0 b1 n0 (Err q) h = find_fetch h
fetched_possible r name type b0 b1 n0 (Ok f) h =
    in_possible r name type (log (block_at (is_second n0 f.dir) b0 b1))

-- ---- the answer back from what C gets
abbrev pub named_from : ℤ → Bool → ℕ → Result (Option ℕ) Refusal
named_from number found id = answer_from (cond found (Ok (Some id)) (Ok None)) Err (TooMany (fetched zero_mdir 0)) number 0

-- the exception is left out
abbrev pub NamedTold : Result (Option ℕ) Refusal → Type 0
NamedTold f = result_number f ≢ neg_ℤ (pos 2) → named_from (result_number f) (named_found f) (named_id f) ≡ f

refused_back : {r : Refusal} → FindRefuses r → NamedTold (Err r)
refused_back (find_fetch fetch22) other = refl
refused_back (find_fetch fetch84) other = refl
refused_back (find_fetch fetch2) other = absurd (other refl)
refused_back find202 other = refl

named_determined : (f : Result (Option ℕ) Refusal) → AnswerOr FindRefuses f → NamedTold f
named_determined (Ok (Some id)) h other = refl
named_determined (Ok None) h other = refl
named_determined (Err r) h other = refused_back h other

-- ---- the laws
module _ (g : Geometry) (b0 b1 : List ℕ) (n0 n1 count seed rules : ℕ) (name : List ℕ) (type : ℕ) where
  pub find_decided : Decides (find_of g b0 b1 n0 n1 count seed rules name type)
  find_decided = decided (find_of g b0 b1 n0 n1 count seed rules name type)

  pub find_possible : AnswerOr FindRefuses (find_of g b0 b1 n0 n1 count seed rules name type)
  unfolding find_of
  find_possible =
      through (AnswerOr FindRefuses) (not (askable rules name)) (find_fetch fetch22)
      (fetched_possible (rules_of rules) name type b0 b1 n0 (fetch_of g b0 b1 n0 n1 count seed)
      (fetch_possible g b0 b1 n0 n1 count seed))

  pub find_told : NamedTold (find_of g b0 b1 n0 n1 count seed rules name type)
  find_told = named_determined (find_of g b0 b1 n0 n1 count seed rules name type) find_possible

pub find_as_decided : (prog : ℕ) (p : LfsPair) (rules : ℕ) (name : List ℕ) (type : ℕ) (input out : List ℕ)
    → TextDecided out (find_text_as prog p rules name type input)
find_as_decided prog p rules name type input out = text_decided out (find_text_as prog p rules name type input)
