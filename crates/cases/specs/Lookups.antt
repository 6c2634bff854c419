-- The lookups over `lfs_dir_getslice`: `lfs_dir_get` and its buffer, a made_up record's move state, and names that are
-- longer than the longest name read. Expected values are read off the bytes by hand, by the sentences that are quoted.
-- Assumes nothing.
use Rattle.std.specs.Prelude.{◌≡◌, refl, false, List, [], ◌∷◌, ◌++◌, ℕ, ◌+◌, ◌-◌, replicate, Err, Ok, Result}
use Rattle.format.specs.Answer.{answer_info}
use Rattle.format.specs.Word.{be32, le32, to_be32, xor, all_ones}
use Rattle.format.specs.Tag.{tag_length, tag_of}
use Rattle.format.specs.Kind.{type_file, type_inline_struct}
use Rattle.format.specs.Fetch.{geometry_fits, pair_fits}
use Rattle.format.specs.Back.{backs, back}
use Rattle.format.specs.Look.{as_ids, spliced_at, wlook}
use Rattle.format.specs.Lookup.{record_fits, searched, blank_buffer, getslice_fits, getslice_of, getslice_buffer}
use Rattle.format.specs.Lookup.{get_fits, get_of, get_buffer, getgstate_of, getgstate_state, getinfo_fits, getinfo_of}
use Rattle.format.specs.declared.Geometry.{Geometry}
use Rattle.format.specs.declared.LfsMdir.{LfsMdir}
use Rattle.format.specs.declared.LfsGstate.{LfsGstate}
use Rattle.format.specs.declared.Refusal.TheVariants.{Invalid}
use Rattle.cases.specs.Listing.{blank, listing}
use Rattle.cases.specs.Pairs.{listed}
use Rattle.format.specs.declared.Found.{Found}
use Rattle.format.specs.declared.Refusal.{Refusal}

abbrev sized : ℕ → Geometry
sized n = record { block_size = n; prog_size = 16 }

-- a record of the pair 0, 1 of which a lookup reads the end and the end tag
abbrev ending : ℕ → ℕ → LfsMdir
ending off etag =
    record {
      pair = record { n0 = 0; n1 = 1 };
      rev = 0;
      off = off;
      etag = etag;
      count = 0;
      erased = false;
      split = false;
      tail = record { n0 = 0; n1 = 0 };
      fcrc = record { seen = false; size = 0; sum = 0 };
    }

abbrev state_of : ℕ → LfsGstate
state_of n = record { tag = n; pair = record { n0 = n; n1 = n } }

-- ---- `lfs_dir_get`
abbrev nines : List ℕ
nines = replicate 6 9

abbrev answered : ℕ → Result Found Refusal
answered key = get_of (sized 128) listing (blank 128) 0 1 listed (state_of 0) 0x7fff_fc00 key nines

abbrev left : ℕ → List ℕ
left key = get_buffer (sized 128) listing (blank 128) 0 1 listed (state_of 0) 0x7fff_fc00 key nines

-- The listing's deadline, 90 5f 01 00, under a key of size 5: four bytes read, one zeroed, and the sixth of the buffer
-- stays.
pub deadline_got : answered 0x3740_0005 ≡ Ok (record { tag = 0x3740_0004; length = 8; off = 27 })
unfolding get_of get_fits getslice_of getslice_fits record_fits geometry_fits pair_fits
    searched back backs wlook spliced_at as_ids be32 xor tag_length tag_of
deadline_got = refl

pub deadline_left : left 0x3740_0005 ≡ 0x90 ∷ 0x5f ∷ 0x01 ∷ 0 ∷ 0 ∷ 9 ∷ []
unfolding get_buffer get_fits getslice_buffer getslice_fits record_fits geometry_fits pair_fits
    searched back backs wlook spliced_at as_ids be32 xor tag_length tag_of
deadline_left = refl

-- a buffer shorter than the key's size: -22, and it stays
pub short_refused : answered 0x3740_0007 ≡ Err Invalid
unfolding get_of get_fits
short_refused = refl

pub short_left : left 0x3740_0007 ≡ nines
unfolding get_buffer get_fits
short_left = refl

-- ---- document 02, L3: "Our deadline reader passes a 4-byte buffer and can't see that an attribute was longer." A
-- block of one attribute 0x74 of slot 0 with six bytes, its tag at 4; the record ends behind it. Through a buffer of
-- four, or of none, from offset 0 or 5, the answer says all of it: 4 + 6, and that the data begin at 8.
abbrev six_tag : ℕ
six_tag = 0x3740_0006

abbrev six : List ℕ
six = replicate 4 0 ++ to_be32 (xor all_ones six_tag) ++ (1 ∷ 2 ∷ 3 ∷ 4 ∷ 5 ∷ 6 ∷ []) ++ blank 114

abbrev six_found : ℕ → ℕ → Result Found Refusal
six_found offset size = getslice_of (sized 128) six (blank 128) 0 1 (ending 14 six_tag) (state_of 0) 0x7fff_fc00 0x3740_0000
    offset (blank_buffer size)

pub six_told : (six_found 0 4 ≡ Ok (record { tag = six_tag; length = 10; off = 8 }))
    × (six_found 0 0 ≡ Ok (record { tag = six_tag; length = 10; off = 8 }))
    × (six_found 5 1 ≡ Ok (record { tag = six_tag; length = 10; off = 8 }))
unfolding getslice_of getslice_fits record_fits geometry_fits pair_fits
    searched back backs wlook spliced_at as_ids be32 to_be32 xor tag_length tag_of
six_told = (refl, refl, refl)

-- ---- `lfs_dir_getgstate`: "a found answer with bit 31 set isn't an error". The end tag of a made_up record has it,
-- type 0x7ff and size 0 at end 8, so nothing is read and twelve zeros are XORed; or size 12 at end 20, so that twelve
-- bytes 0xff are.
abbrev xored : LfsMdir → LfsGstate
xored dir = getgstate_state (sized 128) (blank 128) (blank 128) 0 1 dir (state_of 0) (state_of 5)

pub made_up : getgstate_of (sized 128) (blank 128) (blank 128) 0 1 (ending 8 0xfff0_0000) (state_of 0) ≡ (Ok tt)
unfolding getgstate_of record_fits geometry_fits pair_fits searched back backs wlook spliced_at be32 xor tag_length tag_of
made_up = refl

pub made_up_kept : xored (ending 8 0xfff0_0000) ≡ state_of 5
unfolding getgstate_state record_fits geometry_fits pair_fits
    searched back backs wlook spliced_at be32 le32 xor tag_length tag_of
made_up_kept = refl

pub made_up_read : xored (ending 20 0xfff0_000c) ≡ state_of 0xffff_fffa
unfolding getgstate_state record_fits geometry_fits pair_fits
    searched back backs wlook spliced_at be32 le32 xor tag_length tag_of
made_up_read = refl

-- ---- `lfs_dir_getinfo`: as many bytes of the name are read as the longest name has, and one more. A block of an empty
-- inline file of slot 0, and behind it its name, n bytes 'a'; the record ends there.
abbrev name_tag : ℕ → ℕ
name_tag n = tag_of type_file 0 n

abbrev struct_tag : ℕ
struct_tag = tag_of type_inline_struct 0 0

abbrev named : ℕ → List ℕ
named n =
    replicate 4 0 ++ to_be32 (xor all_ones struct_tag) ++ to_be32 (xor struct_tag (name_tag n)) ++ replicate n 0x61
    ++ blank (500 - n)

abbrev name_shown : ℕ → ℕ → List ℕ
name_shown longest n =
    (answer_info (getinfo_of (sized 512) (named n) (blank 512) 0 1 (ending (12 + n) (name_tag n)) (state_of 0) longest 0)).name

-- of 255 bytes all, and a zero, the 256th; of 256 and of 300 bytes 256, and no zero; with 3 as the longest 3 + 1
pub names_shown : (name_shown 255 255 ≡ replicate 255 0x61 ++ (0 ∷ [])) × (name_shown 255 256 ≡ replicate 256 0x61)
    × (name_shown 255 300 ≡ replicate 256 0x61) × (name_shown 3 300 ≡ replicate 4 0x61 ++ blank_buffer 252)
unfolding getinfo_of getinfo_fits record_fits geometry_fits pair_fits
    searched back backs wlook spliced_at as_ids be32 to_be32 le32 xor tag_length tag_of
names_shown = (refl, refl, refl, refl)
