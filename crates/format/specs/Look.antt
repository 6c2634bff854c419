-- Document 01, Lookup: the search in the tags met on the way back. "Key and running difference are 32-bit words that
-- wrap." A pending move only lowers the difference that the search starts with. Assumes nothing.
use Rattle.std.specs.Prelude.{Bool, cond, ◌&&◌, List, [], ◌∷◌, ℕ, suc, ◌+◌, ◌-◌, ◌*◌, ◌%◌, ◌^◌, ◌≤◌, ◌<◌, take, drop, leb, eqb, ℤ, pos, negsuc, None, Option, Some}
use Rattle.std.specs.Int.Bits.{bit_and}
use Rattle.format.specs.Word.{plus32, minus32}
use Rattle.format.specs.Tag.{tag_splice, tag_id, removal_size, tag_delete, tag_length, tag_of}
use Rattle.format.specs.Kind.{is_splice, type_create}
use Rattle.format.specs.Back.{Met}
use Rattle.format.specs.declared.Found.{Found}

-- The entry of the tag t that stands at `off`, found with the difference `diff`. "The answer is the tag plus the
-- difference"; document 02, L3: "the stored length and the offset of the first data byte beside the tag".
abbrev pub found_at : ℕ → ℕ → ℕ → Found
found_at t off diff = record { tag = plus32 t diff; length = tag_length t; off = off + 4 }

-- how many data bytes it has: "The stored length is 4 plus size"
abbrev pub data_size : Found → ℕ
data_size e = e.length - 4

-- and which, in its block
abbrev pub bytes_of : List ℕ → Found → List ℕ
bytes_of b e = take (data_size e) (drop e.off b)

-- what is found is no removal, and stands whole in a block's first n bytes
pub record FoundIn (n : ℕ) (e : Found) : Type 0 where
  pub counted : 4 ≤ e.length
  pub kept : data_size e < removal_size
  pub inside : e.off + data_size e ≤ n

abbrev pub HitIn : ℕ → Option Found → Type 0
HitIn n None = Unit {0}
HitIn n (Some e) = FoundIn n e

-- The masks of the directory lookups: "newest name (type under 0x700), struct (under 0x700)", both with the id; "0x7ff
-- for each attribute type", with the id; "the move state (0x7ff, no ids)".
abbrev pub mask_type1 : ℕ
mask_type1 = 0x700f_fc00

abbrev pub mask_type3 : ℕ
mask_type3 = 0x7fff_fc00

abbrev pub mask_move : ℕ
mask_move = 0x7ff0_0000

-- a splice "as ids": the ids of a tag count by 2 ^ 10, and a word below zero wraps
unfoldable pub as_ids : ℤ → ℕ
as_ids (pos n) = n * 2 ^ 10 % 2 ^ 32
as_ids (negsuc n) = minus32 0 (suc n * 2 ^ 10)

-- "each splice at or below the adjusted id"; `ids`: "If the mask has any id bit"
unfoldable pub spliced_at : Bool → ℕ → ℕ → Bool
spliced_at ids t key = ids && is_splice t && leb (tag_id t) (tag_id key)

-- "exactly create at that id with size 0"
abbrev pub create_at : ℕ → ℕ
create_at key = tag_of type_create (tag_id key) 0

-- the difference behind a tag: "else adds its splice, as ids, to the difference"
abbrev pub diff_after : Bool → ℕ → ℕ → ℕ → ℕ
diff_after ids t key diff = cond (spliced_at ids t (minus32 key diff)) (plus32 diff (as_ids (tag_splice t))) diff

-- "each splice at or below the adjusted id answers -2 if it is exactly create at that id with size 0, else adds its
-- splice, as ids, to the difference. A match that is a removal answers -2."
unfoldable pub wlook : Bool → ℕ → ℕ → ℕ → List Met → Option Found
wlook ids mask key diff [] = None
wlook ids mask key diff (m ∷ ms) =
    cond (spliced_at ids m.tag (minus32 key diff) && eqb m.tag (create_at (minus32 key diff))) None
    (cond (eqb (bit_and m.tag mask) (bit_and (minus32 key (diff_after ids m.tag key diff)) mask))
    (cond (tag_delete m.tag) None (Some (found_at m.tag m.off (diff_after ids m.tag key diff))))
    (wlook ids mask key (diff_after ids m.tag key diff) ms))
