-- `index_table::count` meets its contract. Assumes nothing.
use Rattle.std.proofs.Common.{◌≡◌, ◌/◌, List, ℕ, length, refl, ◌∙◌, rules, tests}
use Rattle.std.proofs.lemmas.Iterator.{YieldsList-from_slice}
use Rattle.std.proofs.lemmas.Iterator.Search.{position_from_yields_List}
use Rattle.std.specs.List.{position_or_len}
use Rattle.std.specs.Simd.{first_chunks}
use Rattle.index_table.proofs.Leading.{is_free, found_or, leads}
use Rattle.index_table.proofs.count.Goals as goal

pub returns : goal.returns
returns c =
    let w : List ℕ = c.args.table.now in
    let pairs = position_from_yields_List is_free _ _ _ c.position.ensures.ran
    (YieldsList-from_slice c.as_chunks.result.0.now cc) (λ x b q k. search (rules, tests)) in
    let at : c.unwrap_or.result ≡ position_or_len is_free (first_chunks 2 (length w / 2) w) =
    c.unwrap_or.ensures ∙ rw (pairs, c.as_chunks.ensures.front) (found_or is_free (first_chunks 2 (length w / 2) w)) in
    let all = leads (length w / 2) w refl in
    record { result_value = rw at all.0; table_value = rw at all.1 }
