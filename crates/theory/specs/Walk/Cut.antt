-- A commit cut short: the first k bytes stored, the others still erased. It is the finished one, or no check is
-- accepted in it. Assumes nothing.
use Rattle.std.specs.Prelude.{◌≡◌, ◌≢◌, ◌⊎◌, Bool, length, eqb, leb}
use Rattle.std.proofs.Math.Path.{refl}
use Rattle.std.proofs.Common.{sym, ap, ◌∙◌, arith, eqb-true, leb-false, leb-true}
use Rattle.std.proofs.Math.Logic.{inl, inr}
use Rattle.std.proofs.Math.Bool.{true, false}
use mathlib.Core.List.{List, [], ◌∷◌, ◌++◌, append_assoc}
use Prim.Native.Nat.{ℕ, zero, suc, ◌+◌, ◌-◌, ◌/◌, ◌^◌, ◌≤◌, ◌<◌}
use Rattle.format.specs.Word.{be32, le32, to_be32, to_le32, xor}
use Rattle.format.specs.Tag.{tag_length}
use Rattle.format.specs.Kind.{is_check}
use Rattle.format.specs.Crc.{crc}
use Rattle.format.specs.Walk.{walk_from}
use Rattle.format.specs.Commit.{Item, commit_bytes}
use Rattle.format.specs.Erased.{erased}
use Rattle.format.specs.Stores.{fill}
use Rattle.format.proofs.Words.{length_to_be32, xor_undo, length_to_le32}
use Rattle.format.proofs.Checksum.{crc_word}
use Rattle.format.proofs.Tags.{top_valid, top_check, top_xor}
use Rattle.format.proofs.Erased.{Erases, erases_byte}
use Rattle.theory.specs.Walk.Step.{not_true}
use Rattle.theory.specs.Walk.ReadBack.{GoodCheck, read_chk, GoodItem, read_ent, AllGood}
use Rattle.theory.specs.Walk.Erased.{NoCheck, Quiet, quiet_entry, quiet_walk, stub, erased_append, fill_front}
use Rattle.theory.specs.Walk.Erased.{length_fill, fill_top, fill_le, length_erased, fill_back}

-- a cut image is the finished one, or no commit is accepted in it
unfoldable pub Cut : ℕ → ℕ → List ℕ → List ℕ → Type 0
Cut sum p image done = (image ≡ done) ⊎ NoCheck (walk_from sum p image)

-- document 01's coincidence does not hold
abbrev pub NoCoincidence : ℕ → ℕ → ℕ → List Item → ℕ → Type 0
NoCoincidence e sum p [] ct = (j : ℕ) → 0 < j → j < 4 → crc sum (fill e j (to_be32 (xor ct p))) ≢ le32 (erased e 4)
NoCoincidence e sum p (i ∷ is) ct = NoCoincidence e (crc sum (to_be32 (xor i.tag p) ++ i.body)) i.tag is ct

module _ (e : ℕ) (byte : Erases e) where
  -- a cut in the first tag
  in_tag : (sum p t : ℕ) (k : ℕ) (z : List ℕ) (m : ℕ) → Quiet e p → t < 2 ^ 31 → k < 4
      → (is_check t ≡ true → (j : ℕ) → 0 < j → j < 4 → crc sum (fill e j (to_be32 (xor t p))) ≢ le32 (erased e 4))
      → NoCheck (walk_from sum p (fill e k (to_be32 (xor t p) ++ z) ++ erased e m))
  unfolding fill
  in_tag sum p t zero z m quiet small hk co = rw (erased_append e (length (to_be32 (xor t p) ++ z)) m)
      (quiet_walk e byte sum p (length (to_be32 (xor t p) ++ z) + m) quiet)
  in_tag sum p t (suc k) z m quiet small hk co =
      rw (
        fill_front e (suc k) (to_be32 w) z (omega (arith, length_to_be32 w)),
        append_assoc b (erased e (length z)) (erased e m),
        erased_append e (length z) m,
      )
      (stub e byte sum p b n (length_fill e (suc k) (to_be32 w) ∙ length_to_be32 w) (top_valid t t' (sym top) small)
      (λ h. co (top_check t t' (sym top) ∙ h) (suc k) (omega arith) hk))
    where
      w : ℕ
      w = xor t p

      b : List ℕ
      b = fill e (suc k) (to_be32 w)

      n : ℕ
      n = length z + m

      t' : ℕ
      t' = xor (be32 (b ++ erased e n)) p

      top : t' / 2 ^ 24 ≡ t / 2 ^ 24
      top = top_xor (be32 (b ++ erased e n)) w p
          (fill_top e (suc k) w (erased e n) (erases_byte e byte) (omega arith))
          ∙ ap (λ x. x / 2 ^ 24) (xor_undo t p)

  -- a cut in the check's checksum
  cut_chk : (sum p ct j m : ℕ) → sum < 2 ^ 32 → GoodCheck ct → tag_length ct ≤ 8 + m → (b : Bool)
      → eqb (crc sum (to_be32 (xor ct p))) (le32 (fill e j (to_le32 (crc sum (to_be32 (xor ct p)))) ++ erased e m)) ≡ b
      → Cut sum p (to_be32 (xor ct p) ++ fill e j (to_le32 (crc sum (to_be32 (xor ct p)))) ++ erased e m)
      (to_be32 (xor ct p) ++ to_le32 (crc sum (to_be32 (xor ct p))) ++ erased e m)
  unfolding Cut
  cut_chk sum p ct j m small gc fits true q =
      let c : ℕ = crc sum (to_be32 (xor ct p)) in
      let f : fill e j (to_le32 c) ≡ to_le32 c =
      fill_le e j c (erased e m) (erases_byte e byte) (crc_word (to_be32 (xor ct p)) sum small)
      (eqb-true c (le32 (fill e j (to_le32 c) ++ erased e m)) q) in
      inl (ap (λ z. to_be32 (xor ct p) ++ z ++ erased e m) f)
  cut_chk sum p ct j m small gc fits false q =
      let c : ℕ = crc sum (to_be32 (xor ct p)) in
      let S : List ℕ = fill e j (to_le32 c) in
      inr (rw (
        append_assoc (to_be32 (xor ct p)) S (erased e m),
        read_chk sum p ct S (erased e m) (length_fill e j (to_le32 c) ∙ length_to_le32 c) gc (omega
            (arith, length_erased e m)),
        q,
      ) tt)

  -- a cut in an entry's data
  cut_data_lem : (i : Item) (N : List ℕ) (sum p j m : ℕ) → GoodItem i → j ≤ length i.body
      → NoCheck (walk_from sum p (to_be32 (xor i.tag p) ++ fill e j (i.body ++ N) ++ erased e m))
  cut_data_lem i N sum p j m g h =
      let d : List ℕ = fill e j i.body in
      let T : List ℕ = to_be32 (xor i.tag p) in
      let n : ℕ = length N + m in
      let ld : length d ≡ length i.body = length_fill e j i.body in
      rw (
        fill_front e j i.body N h,
        append_assoc T (d ++ erased e (length N)) (erased e m),
        append_assoc d (erased e (length N)) (erased e m),
        erased_append e (length N) m,
        read_ent sum p i.tag d (erased e n) g.small g.entry (omega (arith, g.long)) (λ w. ld ∙ g.eight w),
      )
      (quiet_walk e byte (crc sum (T ++ d)) i.tag n (quiet_entry e byte i.tag g.small g.entry))

  -- a cut behind an entry
  cut_more : (i : Item) (N N' : List ℕ) (sum p m : ℕ) → GoodItem i
      → Cut (crc sum (to_be32 (xor i.tag p) ++ i.body)) i.tag (N' ++ erased e m) (N ++ erased e m)
      → Cut sum p (to_be32 (xor i.tag p) ++ (i.body ++ N') ++ erased e m)
      (to_be32 (xor i.tag p) ++ (i.body ++ N) ++ erased e m)
  unfolding Cut
  cut_more i N N' sum p m g h =
      let T : List ℕ = to_be32 (xor i.tag p) in
      let d : List ℕ = i.body in
      rw (
        append_assoc T (d ++ N') (erased e m),
        append_assoc d N' (erased e m),
        append_assoc T (d ++ N) (erased e m),
        append_assoc d N (erased e m),
      ) (go h)
    where
      T : List ℕ
      T = to_be32 (xor i.tag p)

      go : (N' ++ erased e m ≡ N ++ erased e m) ⊎ NoCheck
          (walk_from (crc sum (T ++ i.body)) i.tag (N' ++ erased e m))
          → (T ++ (i.body ++ (N' ++ erased e m)) ≡ T ++ (i.body ++ (N ++ erased e m))) ⊎ NoCheck
          (walk_from sum p (T ++ (i.body ++ (N' ++ erased e m))))
      go (inl q) = inl (ap (λ z. T ++ (i.body ++ z)) q)
      go (inr n) =
          inr (rw (read_ent sum p i.tag i.body (N' ++ erased e m) g.small g.entry g.long g.eight) n)

  -- THE CUT: stopped after any k bytes, the commit stands whole or is not accepted
  pub cut : (is : List Item) (sum p ct k m : ℕ) → sum < 2 ^ 32 → AllGood is → GoodCheck ct → tag_length ct ≤ 8 + m
      → Quiet e p → NoCoincidence e sum p is ct
      → Cut sum p (fill e k (commit_bytes sum p is ct) ++ erased e m) (commit_bytes sum p is ct ++ erased e m)
  unfolding commit_bytes Cut
  cut [] sum p ct k m small good gc fits quiet co = go (leb 4 k) refl
    where
      c : ℕ
      c = crc sum (to_be32 (xor ct p))

      go : (b : Bool) → leb 4 k ≡ b → Cut sum p (fill e k (to_be32 (xor ct p) ++ to_le32 c) ++ erased e m)
          (to_be32 (xor ct p) ++ to_le32 c ++ erased e m)
      go false q = inr (in_tag sum p ct k (to_le32 c) m quiet gc.small (leb-false 4 k q) (λ h. co))
      go true q =
          rw (fill_back e k (k - 4) (to_be32 (xor ct p)) (to_le32 c)
          (omega (arith, length_to_be32 (xor ct p), leb-true 4 k q)))
          (cut_chk sum p ct (k - 4) m small gc fits (eqb c (le32 (fill e (k - 4) (to_le32 c) ++ erased e m))) refl)
  cut (i ∷ is) sum p ct k m small good gc fits quiet co = go (leb 4 k) refl (leb (k - 4) (length i.body)) refl
      (λ j. cut is (crc sum (to_be32 (xor i.tag p) ++ i.body)) i.tag ct j m
      (crc_word (to_be32 (xor i.tag p) ++ i.body) sum small) good.1 gc fits
      (quiet_entry e byte i.tag good.0.small good.0.entry) co)
    where
      N : List ℕ
      N = commit_bytes (crc sum (to_be32 (xor i.tag p) ++ i.body)) i.tag is ct

      T : List ℕ
      T = to_be32 (xor i.tag p)

      go : (b : Bool) → leb 4 k ≡ b → (b' : Bool) → leb (k - 4) (length i.body) ≡ b'
          → ((j : ℕ) → Cut (crc sum (T ++ i.body)) i.tag (fill e j N ++ erased e m) (N ++ erased e m))
          → Cut sum p (fill e k (T ++ (i.body ++ N)) ++ erased e m) (T ++ (i.body ++ N) ++ erased e m)
      go false q b' q' ih = inr (in_tag sum p i.tag k (i.body ++ N) m quiet good.0.small (leb-false 4 k q)
          (λ h. absurd (not_true (is_check i.tag) good.0.entry h)))
      go true q true q' ih =
          rw (fill_back e k (k - 4) T (i.body ++ N) (omega (arith, length_to_be32 (xor i.tag p), leb-true 4 k q)))
          (inr (cut_data_lem i N sum p (k - 4) m good.0 (leb-true (k - 4) (length i.body) q')))
      go true q false q' ih =
          let j : ℕ = k - 4 - length i.body in
          rw (
            fill_back e k (k - 4) T (i.body ++ N) (omega (arith, length_to_be32 (xor i.tag p), leb-true 4 k q)),
            fill_back e (k - 4) (k - 4 - length i.body) i.body N
                (omega (arith, leb-false (k - 4) (length i.body) q')),
          )
          (cut_more i N (fill e j N) sum p m good.0 (ih j))
