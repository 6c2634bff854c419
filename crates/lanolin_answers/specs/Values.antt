-- The structs that C gets, from the answers. Assumes nothing.
use Rattle.std.specs.Prelude.{ℕ, Option, Result}
use Rattle.format.specs.Answer.{result_number, answer_value, answer_mdir, answer_seed, answer_index, answer_info}
use Rattle.format.specs.Answer.{got_found, named_found, named_id, indexed_places}
use Rattle.format.specs.declared.Written.{Written}
use Rattle.lanolin_answers.specs.declared.Value.{Value}
use Rattle.lanolin_answers.specs.declared.GotOut.{GotOut}
use Rattle.lanolin_answers.specs.declared.FetchedOut.{FetchedOut}
use Rattle.lanolin_answers.specs.declared.InfoOut.{InfoOut}
use Rattle.lanolin_answers.specs.declared.CommittedOut.{CommittedOut}
use Rattle.lanolin_answers.specs.declared.StoredOut.{StoredOut}
use Rattle.lanolin_answers.specs.declared.NamedOut.{NamedOut}
use Rattle.lanolin_answers.specs.declared.IndexedOut.{IndexedOut}
use Rattle.lanolin_answers.specs.declared.TextOut.{TextOut}
use Rattle.format.specs.declared.Fetched.{Fetched}
use Rattle.format.specs.declared.Found.{Found}
use Rattle.format.specs.declared.LfsInfo.{LfsInfo}
use Rattle.format.specs.declared.Refusal.{Refusal}

abbrev pub word_out : Result ℕ Refusal → Value
word_out w = record { result = result_number w; value = answer_value w }

abbrev pub got_out : Result Found Refusal → GotOut
got_out g = record { result = result_number g; found = got_found g }

-- from the seed that was given
abbrev pub fetched_out : ℕ → Result Fetched Refusal → FetchedOut
fetched_out seed f = record { result = result_number f; dir = answer_mdir f; seed = answer_seed seed f }

abbrev pub info_out : Result LfsInfo Refusal → InfoOut
info_out i = record {
  result = result_number i;
  kind = (answer_info i).kind;
  size = (answer_info i).size;
  name = (answer_info i).name;
}

-- from the seed that was given
abbrev pub committed_out : ℕ → Result Fetched Refusal → CommittedOut
committed_out seed c =
    record { result = result_number c; index = answer_index c; dir = answer_mdir c; seed = answer_seed seed c }

abbrev pub stored_out : Result ℕ Refusal → StoredOut
stored_out s = record { result = result_number s; index = answer_index s; stores = answer_value s }

abbrev pub named_out : Result (Option ℕ) Refusal → NamedOut
named_out a = record { result = result_number a; found = named_found a; id = named_id a }

abbrev pub indexed_out : Result ℕ Refusal → IndexedOut
indexed_out i = record { result = result_number i; places = indexed_places i }

abbrev pub text_out : Written → TextOut
text_out w = record { result = result_number w.answer; length = w.length }
