-- An append over blocks as they stand: what is asked of it, what its stores leave, and the record of demand 3, which is
-- proved in proofs/Blocks/Append.antt. Assumes nothing.
use Rattle.std.specs.Prelude.{◌≡◌, refl, ◌≢◌, ◌⊎◌, Bool, true, List, [], ◌∷◌, ◌++◌, ℕ, zero, suc, ◌+◌, ◌-◌, ◌≤◌, take, length, drop}
use Rattle.std.proofs.Common.{sym, ap, ◌∙◌, append_assoc, arith, length-append, take-append-drop, length-take-le, drop-drop}
use Rattle.format.specs.Word.{to_be32, to_le32, xor, all_ones}
use Rattle.format.specs.Tag.{tag_length, tag_flipped}
use Rattle.format.specs.Crc.{crc}
use Rattle.format.specs.Walk.{Event, chk}
use Rattle.format.specs.Log.{log, log_end, log_end_tag}
use Rattle.format.specs.View.{at}
use Rattle.format.specs.Commit.{Item, commit_bytes, commit_sum, written}
use Rattle.format.specs.Erased.{erased, validity_fits}
use Rattle.format.specs.Stores.{fill, entries_length, appending}
use Rattle.format.specs.Directory.{Act, skip, apply, Slot, act, acts, dir_of, apply_all}
use Rattle.format.proofs.Words.{length_to_be32, length_to_le32}
use Rattle.format.proofs.Erased.{Erases}
use Rattle.theory.specs.Walk.Locality.{AllContained}
use Rattle.theory.specs.Walk.ReadBack.{AllGood, GoodCheck}
use Rattle.theory.specs.Walk.Erased.{quiet_end, erased_append, drop_erased_is}
use Rattle.theory.specs.Walk.Cut.{NoCoincidence}
use Rattle.theory.specs.Log.Stores.{Appends, room, filled, commit_events}
use Rattle.theory.specs.Log.TwoBlocks.{view_at}
use Rattle.theory.specs.Directory.Acts.{dir_of_app}

-- k bytes stored over erased ones
pub fill_take : (e k : ℕ) (N : List ℕ) (m n : ℕ) → k ≤ length N → n ≡ length N - k + m
    → fill e k N ++ erased e m ≡ take k N ++ erased e n
unfolding fill
fill_take e zero N m n h s = let q : length N + m ≡ n = omega arith in rw (erased_append e (length N) m, q)
fill_take e (suc k) [] m n h s = absurd (omega arith)
fill_take e (suc k) (x ∷ N) m n h s = ap (λ z. x ∷ z) (fill_take e k N m n (omega arith) (omega arith))

pub fill_all : (e k : ℕ) (N : List ℕ) → length N ≤ k → fill e k N ≡ N
unfolding fill
fill_all e zero [] h = refl
fill_all e zero (x ∷ N) h = absurd (omega arith)
fill_all e (suc k) [] h = refl
fill_all e (suc k) (x ∷ N) h = ap (λ z. x ∷ z) (fill_all e k N (omega arith))

pub take_erased : (e n k : ℕ) → n ≤ k → take n (erased e k) ≡ erased e n
take_erased e zero k h = refl
take_erased e (suc n) zero h = absurd (omega arith)
take_erased e (suc n) (suc k) h = ap (λ z. e ∷ z) (take_erased e n k (omega arith))

pub length_commit : (is : List Item) (sum p ct : ℕ) → AllGood is
    → length (commit_bytes sum p is ct) ≡ entries_length is + 8
unfolding commit_bytes entries_length
length_commit [] sum p ct g =
    rw (
      length-append (to_be32 (xor ct p)) (to_le32 (crc sum (to_be32 (xor ct p)))),
      length_to_be32 (xor ct p),
      length_to_le32 (crc sum (to_be32 (xor ct p))),
    ) refl
length_commit (i ∷ is) sum p ct g =
    let w : ℕ = xor i.tag p in
    let N : List ℕ = commit_bytes (crc sum (to_be32 (xor i.tag p) ++ i.body)) i.tag is ct in
    let ih : length N ≡ entries_length is + 8 = length_commit is (crc sum (to_be32 (xor i.tag p) ++ i.body)) i.tag
    ct g.1 in
    rw (length-append (to_be32 w) (i.body ++ N), length-append i.body N, length_to_be32 w, ih)
    (omega (arith, g.0.long))

-- a commit of `is` with check tag ct is accepted on the block b whose log is es, over the erased byte e
pub record AppendOk (e : ℕ) (b : List ℕ) (es : List Event) (is : List Item) (ct : ℕ) : Type 0 where
  pub byte : Erases e
  pub old : log b ≡ es
  pub nonempty : es ≢ []
  pub reg : AllContained es
  pub items : AllGood is
  pub check : GoodCheck ct
  pub flips : validity_fits e (tag_flipped ct) ≡ true
  pub fits : log_end es + entries_length is + tag_length ct ≤ length b
  pub clean : drop (log_end es) b ≡ erased e (length b - (log_end es))
  pub validity : validity_fits e (log_end_tag es) ≡ true
  pub lucky : NoCoincidence e all_ones (log_end_tag es) is ct

pub appends : (e : ℕ) (b : List ℕ) (es : List Event) (is : List Item) (ct : ℕ) → AppendOk e b es is ct
    → Appends e (take (log_end es) b) (length b - (log_end es)) es is ct (length b - (log_end es) - (entries_length is + 8))
appends e b es is ct a =
    record {
      old = rw (← a.clean, take-append-drop (log_end es) b) a.old;
      nonempty = a.nonempty;
      reg = a.reg;
      end = length-take-le (log_end es) b (omega (arith, a.fits));
      fits = record {
        byte = a.byte;
        items = a.items;
        check = a.check;
        flips = a.flips;
        room = omega (arith, a.fits, a.check.long);
        start = quiet_end e a.byte (log_end_tag es) a.validity;
        lucky = a.lucky;
      };
      all = omega (arith, a.fits, a.check.long, length_commit is all_ones (log_end_tag es) ct a.items);
    }

pub as_room : (e : ℕ) (b : List ℕ) (es : List Event) (is : List Item) (ct k : ℕ) → AppendOk e b es is ct
    → k ≤ entries_length is + 8
    → appending b es is ct k ≡ take (log_end es) b ++ room e all_ones (log_end_tag es) is ct
    (length b - (log_end es) - (entries_length is + 8)) k
unfolding appending room
as_room e b es is ct k a h =
    let N : List ℕ = commit_bytes all_ones (log_end_tag es) is ct in
    let M : ℕ = length b - (log_end es) in
    let l : length N ≡ entries_length is + 8 = length_commit is all_ones (log_end_tag es) ct a.items in
    let big : entries_length is + 8 ≤ length b - (log_end es) = omega (arith, a.fits, a.check.long) in
    let d : drop (log_end es + k) b ≡ erased e (length b - (log_end es) - k) = sym (drop-drop k (log_end es) b)
    ∙ rw a.clean (drop_erased_is e k M (length b - (log_end es) - k) (omega arith) refl) in
    rw (d, append_assoc (take (log_end es) b) (take k N) (erased e (length b - (log_end es) - k)))
    (ap (λ z. take (log_end es) b ++ z) (sym (fill_take e k N (length b - (log_end es) - (entries_length is + 8))
    (length b - (log_end es) - k) (omega arith) (omega arith))))

pub as_filled : (e : ℕ) (b : List ℕ) (es : List Event) (is : List Item) (ct : ℕ) → AppendOk e b es is ct
    → appending b es is ct (entries_length is + 8) ≡ take (log_end es) b ++ filled e all_ones (log_end_tag es) is ct
    (length b - (log_end es) - (entries_length is + 8))
unfolding room filled
as_filled e b es is ct a =
    let N : List ℕ = commit_bytes all_ones (log_end_tag es) is ct in
    let l : length N ≡ entries_length is + 8 = length_commit is all_ones (log_end_tag es) ct a.items in
    as_room e b es is ct (entries_length is + 8) a (omega arith)
    ∙ ap (λ z. take (log_end es) b ++ (z ++ erased e (length b - (log_end es) - (entries_length is + 8))))
    (fill_all e (entries_length is + 8) N (omega arith))

-- the acts of a commit's entries
unfoldable pub item_acts : List Item → List Act
item_acts [] = []
item_acts (i ∷ is) = act i.tag i.body ∷ item_acts is

pub acts_written : (is : List Item) (t c : ℕ) → acts (written is (chk t c ∷ [])) ≡ item_acts is ++ (skip ∷ [])
unfolding acts written item_acts
acts_written [] t c = refl
acts_written (i ∷ is) t c = ap (λ z. act i.tag i.body ∷ z) (acts_written is t c)

apply_skip : (D : List Slot) (l : List Act) → apply_all D (l ++ (skip ∷ [])) ≡ apply_all D l
unfolding apply_all apply
apply_skip D [] = refl
apply_skip D (a ∷ l) = apply_skip (apply D a) l

-- the directory of the finished log: the entries applied
pub commit_dir : (es : List Event) (sum p : ℕ) (is : List Item) (ct : ℕ)
    → dir_of (es ++ commit_events sum p is ct) ≡ apply_all (dir_of es) (item_acts is)
unfolding commit_events
commit_dir es sum p is ct =
    dir_of_app es (written is (chk ct (commit_sum sum p is ct) ∷ []))
    ∙ rw (acts_written is ct (commit_sum sum p is ct)) (apply_skip (dir_of es) (item_acts is))

-- ---- DEMAND 3, APPEND. x is the pair's answering block, at place w; o the other.
pub record AfterAppend (w : Bool) (o : List ℕ) (v : ℕ) (es : List Event) (is : List Item) (ct : ℕ)
    (image done : List ℕ) : Type 0 where
  -- stopped anywhere: the finished block, or the old view
  pub either : (image ≡ done) ⊎ (view_at w image o ≡ at w v es)
  -- the finished pair's view, and its directory
  pub finished : view_at w done o ≡ at w v (es ++ commit_events all_ones (log_end_tag es) is ct)
  pub applied : dir_of (es ++ commit_events all_ones (log_end_tag es) is ct) ≡ apply_all (dir_of es) (item_acts is)
