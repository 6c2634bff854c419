-- Document 02, L5: behind a commit that carried a forward check the unit is erased, so that fetch's erased mark is yes,
-- and the record holds the check. The same of an append and of a compaction. Assumes nothing.
use Rattle.std.specs.Prelude.{◌≡◌, Bool, true, false, cond, List, [], ◌∷◌, ◌++◌, ℕ, ◌+◌, ◌-◌, ◌%◌, ◌≤◌, length, take, drop}
use Rattle.std.proofs.Math.Path.{refl}
use Rattle.std.proofs.Common.{sym, ap, ◌∙◌, arith, length-append, length-drop, drop-drop, drop_at, length-take-le}
use Rattle.std.proofs.Math.Seq.{drop-append-add}
use borrow.Author.Tests.{eq-eqb, le-leb}
use Rattle.format.specs.Word.{to_le32, all_ones}
use Rattle.format.specs.Tag.{tag_length, tag_flipped}
use Rattle.format.specs.Kind.{type_forward, no_slot, is_forward}
use Rattle.format.specs.Crc.{crc}
use Rattle.format.specs.Walk.{Event, ent, chk, inv, walk, walk_from}
use Rattle.format.specs.Log.{event_length, span, log_end, log_end_tag, stopped_straight}
use Rattle.format.specs.Record.{forward_in, no_forward, forward_of}
use Rattle.format.specs.Fetch.{erased_of}
use Rattle.format.specs.Commit.{Item, check_tag, commit_bytes, commit_sum, written}
use Rattle.format.specs.Erased.{erased, validity_fits}
use Rattle.format.specs.Stores.{entries_length, appending, compacted}
use Rattle.format.specs.Writer.{rounded_end, check_size, unit_check, forward_item, carries, carried_for, with_forward}
use Rattle.format.specs.declared.LfsFcrc.{LfsFcrc}
use Rattle.format.specs.declared.LfsPair.{LfsPair}
use Rattle.format.proofs.Tags.{of_type3}
use Rattle.format.proofs.Erased.{Erases}
use Rattle.theory.specs.Walk.Erased.{length_erased, drop_erased_is, stops_behind}
use Rattle.theory.specs.Walk.ReadBack.{AllGood, GoodCheck, decode}
use Rattle.theory.specs.Log.Folds.{span_app, forward_app}
use Rattle.theory.specs.Log.Stores.{CommitFits, commit_events, reach_walk, compact_walk, filled}
use Rattle.theory.specs.Back.EventBytes.{Stands, log_stands}
use Rattle.theory.specs.Blocks.Append.{length_commit, take_erased, AppendOk, appends, as_filled}
use Rattle.theory.specs.Blocks.OtherItems.{check_length_lem}
use Rattle.theory.specs.Rules.LooseEntry.{pair_back}
use Rattle.theory.specs.Commit.ForwardCheck.{carried_end}
use Rattle.theory.specs.Commit.AcceptedVerdict.{check_size_lem, check_ends}

-- ---- the walk stops straight after the commit
straight_written : (is : List Item) (a : Bool) (t c : ℕ) → stopped_straight a (written is (chk t c ∷ inv ∷ [])) ≡ true
unfolding stopped_straight written
straight_written [] a t c = refl
straight_written (i ∷ is) a t c = straight_written is false t c

straight_app : (es more : List Event) (a : Bool) → Stands es → ((q : Bool) → stopped_straight q more ≡ true)
    → stopped_straight a (es ++ more) ≡ true
unfolding stopped_straight
straight_app [] more a st h = h a
straight_app (ent t d ∷ es) more a st h = straight_app es more false st.1 h
straight_app (chk t c ∷ es) more a st h = straight_app es more true st.1 h
straight_app (inv ∷ es) more a st h = absurd st

-- ---- where a log ends with a commit more
span_written : (is : List Item) (t c : ℕ) → span (written is (chk t c ∷ [])) ≡ entries_length is + tag_length t
unfolding span written event_length entries_length
span_written [] t c = omega arith
span_written (i ∷ is) t c = rw (span_written is t c) (omega arith)

-- ---- the last forward check of it
forward_reads : (f : LfsFcrc) → f.seen ≡ true → forward_in (forward_item f).body ≡ f
forward_reads f h =
    let p : LfsPair = record { n0 = f.size; n1 = f.sum } in
    let back = pair_back p in
    λ i. record { seen = sym h i; size = (back i).n0; sum = (back i).n1 }

forward_last : (is : List Item) (f g : LfsFcrc) (t c : ℕ) → f.seen ≡ true
    → forward_of g (written (is ++ (forward_item f ∷ [])) (chk t c ∷ [])) ≡ f
unfolding forward_of written
forward_last [] f g t c h =
    rw (of_type3 type_forward no_slot 8 (omega arith) (omega arith) (omega arith)) (forward_reads f h)
forward_last (i ∷ is) f g t c h = forward_last is f (cond (is_forward i.tag) (forward_in i.body) g) t c h

pub forward_held : (e : ℕ) (es : List Event) (sum p : ℕ) (is : List Item) (ct prog : ℕ)
    → forward_of no_forward (es ++ commit_events sum p (is ++ (forward_item (unit_check e prog) ∷ [])) ct) ≡ unit_check e prog
unfolding commit_events
forward_held e es sum p is ct prog =
    forward_app es _ no_forward
    ∙ forward_last is (unit_check e prog) (forward_of no_forward es) ct
    (commit_sum sum p (is ++ (forward_item (unit_check e prog) ∷ [])) ct) refl

-- ---- a block b with the log es, then a commit of the items is with the check tag ct, then m erased bytes
module _ (e : ℕ) (byte : Erases e) (prog : ℕ) (some : 4 ≤ prog) (b : List ℕ) (es : List Event) (sum p : ℕ)
    (is : List Item) (ct m : ℕ)
    (stands : Stands es) (walks : walk b ≡ es ++ walk_from sum p (commit_bytes sum p is ct ++ erased e m))
    (rest : drop (log_end es) b ≡ commit_bytes sum p is ct ++ erased e m) (good : AllGood is) (check : GoodCheck ct)
    (flips : validity_fits e (tag_flipped ct) ≡ true) (follows : tag_length ct + prog ≤ 8 + m) where
  -- the erased bytes behind its end
  abbrev left : ℕ
  left = m - (tag_length ct - 8)

  straight : stopped_straight false (walk b) ≡ true
  straight =
      let stop : walk_from all_ones (tag_flipped ct) (drop (tag_length ct - 8) (erased e m)) ≡ inv ∷ [] =
      rw (drop_erased_is e (tag_length ct - 8) m left (omega (arith, check.long)) refl)
      (stops_behind e byte all_ones (tag_flipped ct) left (omega (arith, check.long)) flips) in
      rw (walks, decode is sum p ct (erased e m) good check (omega (arith, length_erased e m)), stop)
      (straight_app es _ false stands (λ q. straight_written is q ct (commit_sum sum p is ct)))

  end_is : log_end (es ++ commit_events sum p is ct) ≡ log_end es + (entries_length is + tag_length ct)
  unfolding commit_events
  end_is = rw
      (span_app es (written is (chk ct (commit_sum sum p is ct) ∷ [])), span_written is ct (commit_sum sum p is ct))
      (omega arith)

  bytes : length (commit_bytes sum p is ct) ≡ entries_length is + 8
  bytes = length_commit is sum p ct good

  behind : drop (log_end es + (entries_length is + tag_length ct)) b ≡ erased e left
  behind =
      let k : entries_length is + tag_length ct ≡ length (commit_bytes sum p is ct) + (tag_length ct - 8) =
      omega (arith, bytes, check.long) in
      sym (drop-drop (entries_length is + tag_length ct) (log_end es) b)
      ∙ rw (rest, k) (drop-append-add (commit_bytes sum p is ct) (erased e m) (tag_length ct - 8)
      ∙ drop_erased_is e (tag_length ct - 8) m left (omega (arith, check.long)) refl)

  long : log_end es + (entries_length is + tag_length ct) + prog ≤ length b
  long =
      let n : length (drop (log_end es) b) ≡ entries_length is + 8 + m =
      ap length rest ∙ length-append (commit_bytes sum p is ct) (erased e m)
      ∙ rw (bytes, length_erased e m) refl in
      omega (arith, length-drop (log_end es) b, check.long)

  -- the mark: what is held is the check of the erased unit
  pub erased_behind : (log_end es + (entries_length is + tag_length ct)) % prog ≡ 0
      → forward_of no_forward (es ++ commit_events sum p is ct) ≡ unit_check e prog
      → erased_of prog b (es ++ commit_events sum p is ct) ≡ true
  unfolding erased_of
  erased_behind aligned held =
      rw (
        straight,
        held,
        end_is,
        eq-eqb ((log_end es + (entries_length is + tag_length ct)) % prog) 0 aligned,
        le-leb (log_end es + (entries_length is + tag_length ct) + prog) (length b) long,
        behind,
        take_erased e prog left (omega (arith, check.long)),
        eq-eqb (crc all_ones (erased e prog)) (crc all_ones (erased e prog)) refl,
      )

-- ---- an append
pub append_erased : (e prog : ℕ) → 4 ≤ prog → (b : List ℕ) (es : List Event) (is : List Item) (ct : ℕ)
    → AppendOk e b es is ct → (log_end es + (entries_length is + tag_length ct)) % prog ≡ 0
    → log_end es + (entries_length is + tag_length ct) + prog ≤ length b
    → forward_of no_forward (es ++ commit_events all_ones (log_end_tag es) is ct) ≡ unit_check e prog
    → erased_of prog (appending b es is ct (entries_length is + 8)) (es ++ commit_events all_ones (log_end_tag es) is ct)
    ≡ true
unfolding filled
append_erased e prog some b es is ct ok aligned unit held =
    let a = appends e b es is ct ok in
    let M : ℕ = length b - (log_end es) in
    let m : ℕ = length b - (log_end es) - (entries_length is + 8) in
    let y : List ℕ = commit_bytes all_ones (log_end_tag es) is ct ++ erased e m in
    rw (as_filled e b es is ct ok)
    (erased_behind e ok.byte prog some (take (log_end es) b ++ y) es all_ones (log_end_tag es) is ct m
    (rw ok.old at (log_stands b))
    (reach_walk e (take (log_end es) b) M es a.old a.nonempty a.reg a.end y)
    (drop_at (take (log_end es) b) y (log_end es) (length-take-le (log_end es) b (omega (arith, ok.fits)))) ok.items
    ok.check ok.flips
    (omega (arith, ok.check.long)) aligned held)

-- ---- a compaction
pub compact_erased : (e prog : ℕ) → 4 ≤ prog → (rev : ℕ) (is : List Item) (ct m : ℕ)
    → CommitFits e (crc all_ones (to_le32 rev)) all_ones is ct m → (4 + (entries_length is + tag_length ct)) % prog ≡ 0
    → tag_length ct + prog ≤ 8 + m
    → forward_of no_forward (commit_events (crc all_ones (to_le32 rev)) all_ones is ct) ≡ unit_check e prog
    → erased_of prog (compacted e rev is ct m) (commit_events (crc all_ones (to_le32 rev)) all_ones is ct) ≡ true
unfolding span
compact_erased e prog some rev is ct m fits aligned unit held =
    let w = compact_walk e rev is ct m in
    erased_behind e fits.byte prog some (compacted e rev is ct m) [] (crc all_ones (to_le32 rev)) all_ones is ct m tt
    w.1 w.0
    fits.items fits.check fits.flips unit aligned held

-- ---- what is laid of entries that begin at `from`, with the forward check: `size` is that of its check
module _ (e prog block from : ℕ) (is js : List Item) (size : ℕ) (some : 4 ≤ prog) (most : prog ≤ 512)
    (laid : js ≡ with_forward e prog block from is) (sized : size ≡ check_size prog (from + entries_length js))
    (carried : carries prog block (from + entries_length is) ≡ true) where
  pub carried_items : js ≡ is ++ (forward_item (unit_check e prog) ∷ [])
  unfolding with_forward carried_for
  carried_items = laid ∙ rw carried

  ends : from + (entries_length js + tag_length (check_tag e size)) ≡ from + entries_length js + 4
      + check_size prog (from + entries_length js)
  ends =
      let k = check_size_lem prog (from + entries_length js) some most in
      omega (arith, sized, k.1, check_length_lem e size (omega (arith, sized, k.1)))

  pub carried_aligned : (from + (entries_length js + tag_length (check_tag e size))) % prog ≡ 0
  carried_aligned = rw ends (check_ends prog (from + entries_length js) some)

  pub carried_unit : from + (entries_length js + tag_length (check_tag e size)) + prog ≤ block
  carried_unit =
      let k = check_size_lem prog (from + entries_length js) some most in
      let r : rounded_end prog (from + entries_length js) + prog ≤ block =
      rw (← laid) at (carried_end e prog block from is some carried).1 in
      omega (arith, ends, k.2)
