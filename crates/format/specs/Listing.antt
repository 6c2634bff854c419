-- Document 01, Cases: the text of the listing program, byte by byte. "A listing program takes both images on standard
-- input (block size is half the length, program size 16, numbers 0 and 1, block count 0, seed 0; an odd length or one
-- above 65,536 is -22)." Assumes nothing.
use Rattle.std.specs.Prelude.{Bool, not, cond, ◌&&◌, ◌||◌, List, [], ◌∷◌, ◌++◌, ℕ, zero, suc, ◌+◌, ◌/◌, ◌%◌, ◌^◌, ℤ, pos, negsuc, length, take, drop, leb, ltb, eqb, Err, None, Ok, Option, Result, Some}
use Prim.Native.Char.{code}
use Prim.Native.String as string
use Prim.Native.String.{String}
use Rattle.format.specs.Log.{log}
use Rattle.format.specs.Answer.{refusal_number}
use Rattle.format.specs.Fetch.{fetch_of}
use Rattle.format.specs.Regular.{Regular, rules_fit, rules_of}
use Rattle.format.specs.Directory.{Load, Slot, dir_of}
use Rattle.format.specs.Writer.{block_at, is_second}
use Rattle.format.specs.Compaction.{is_no_tail}
use Rattle.format.specs.declared.Geometry.{Geometry}
use Rattle.format.specs.declared.Rules.{Rules}
use Rattle.format.specs.declared.LfsPair.{LfsPair}
use Rattle.format.specs.declared.LfsMdir.{LfsMdir}
use Rattle.format.specs.declared.Refusal.{Refusal}
use Rattle.format.specs.declared.Refusal.TheVariants.{Invalid, Irregular}
use Rattle.format.specs.declared.Fetched.{Fetched}

-- ---- letters and numbers
-- a text as its bytes
abbrev pub ascii : String → List ℕ
ascii string.[] = []
ascii (string.◌∷◌ c s) = code c ∷ ascii s

-- the last digit of a number, in decimal and in hex
abbrev pub decimal_digit : ℕ → ℕ
decimal_digit n = 48 + n % 10

unfoldable pub hex_digit : ℕ → ℕ
hex_digit n = cond (ltb (n % 16) 10) (48 + n % 16) (87 + n % 16)

-- a number of at most k digits in decimal, with no zero in front
unfoldable pub decimal_in : ℕ → ℕ → List ℕ
decimal_in zero n = []
decimal_in (suc k) n = cond (ltb n 10) (decimal_digit n ∷ []) (decimal_in k (n / 10) ++ (decimal_digit n ∷ []))

-- a word has at most ten
abbrev pub decimal : ℕ → List ℕ
decimal n = decimal_in 10 n

-- a byte, bytes, and a type of 11 bits, in hex
abbrev pub hex_byte : ℕ → List ℕ
hex_byte b = hex_digit (b / 2 ^ 4) ∷ hex_digit b ∷ []

unfoldable pub hex_bytes : List ℕ → List ℕ
hex_bytes [] = []
hex_bytes (b ∷ bs) = hex_byte b ++ hex_bytes bs

abbrev pub hex_type : ℕ → List ℕ
hex_type t = hex_digit (t / 2 ^ 8) ∷ hex_digit (t / 2 ^ 4) ∷ hex_digit t ∷ []

-- "Name bytes outside 0x21 to 0x7e, and the backslash, print as \xHH": the others as they are.
unfoldable pub is_plain : ℕ → Bool
is_plain b = leb 0x21 b && leb b 0x7e && not (eqb b 0x5c)

unfoldable pub name_byte : ℕ → List ℕ
name_byte b = cond (is_plain b) (b ∷ []) (ascii "\\x" ++ hex_byte b)

unfoldable pub name_bytes : List ℕ → List ℕ
name_bytes [] = []
name_bytes (b ∷ bs) = name_byte b ++ name_bytes bs

-- ---- the record: the lines `rev`, `block`, `end`, `count`, `tail`, `erased`
unfoldable pub number_line : List ℕ → ℕ → List ℕ
number_line label n = label ++ (decimal n ++ ascii "\n")

-- "A tail prints `soft` or `hard` and two decimals; `none` is soft, both 0xffffffff."
abbrev pub tail_kind : Bool → List ℕ
tail_kind split = cond split (ascii "tail hard ") (ascii "tail soft ")

unfoldable pub tail_line : Bool → LfsPair → List ℕ
tail_line split p = cond (is_no_tail split p) (ascii "tail none\n")
    (tail_kind split ++ (decimal p.n0 ++ number_line (ascii " ") p.n1))

unfoldable pub erased_line : Bool → List ℕ
erased_line erased = cond erased (ascii "erased yes\n") (ascii "erased no\n")

-- `block` is the number of the block that answers
unfoldable pub record_lines : LfsMdir → List ℕ
record_lines m =
    number_line (ascii "rev ") m.rev
    ++ (number_line (ascii "block ") m.pair.n0
    ++ (number_line (ascii "end ") m.off
    ++ (number_line (ascii "count ") m.count
    ++ (tail_line m.split m.tail ++ erased_line m.erased))))

-- ---- the directory "Slot: id, name type, name, struct type, struct length; a missing part prints `-` per field." Each
-- field stands behind a space.
unfoldable pub name_fields : Option Load → List ℕ
name_fields None = ascii " - -"
name_fields (Some v) = ascii " " ++ (hex_type v.type ++ (ascii " " ++ name_bytes v.bytes))

unfoldable pub struct_fields : Option Load → List ℕ
struct_fields None = ascii " - -\n"
struct_fields (Some v) = ascii " " ++ (hex_type v.type ++ number_line (ascii " ") (length v.bytes))

unfoldable pub slot_line : ℕ → Slot → List ℕ
slot_line id s = ascii "slot " ++ (decimal id ++ (name_fields (s 0) ++ struct_fields (s 1)))

-- "Attr, behind its slot: id, type, data hex, rising; an empty one prints `-`."
abbrev pub attr_data : List ℕ → List ℕ
attr_data [] = ascii "-"
attr_data (b ∷ bs) = hex_bytes (b ∷ bs)

unfoldable pub attr_line : ℕ → Option Load → List ℕ
attr_line id None = []
attr_line id (Some v) = ascii "attr "
    ++ (decimal id ++ (ascii " " ++ (hex_type v.type ++ (ascii " " ++ (attr_data v.bytes ++ ascii "\n")))))

-- what a slot holds under n classes from c on
unfoldable pub attr_lines : ℕ → ℕ → ℕ → Slot → List ℕ
attr_lines zero c id s = []
attr_lines (suc n) c id s = attr_line id (s c) ++ attr_lines n (suc c) id s

-- a slot's line and those of its user attributes: the classes 2 and up
abbrev pub slot_text : ℕ → Slot → List ℕ
slot_text id s = slot_line id s ++ attr_lines (2 ^ 8) 2 id s

-- the slots from id on, each with its user attributes
unfoldable pub slot_lines : ℕ → List Slot → List ℕ
slot_lines id [] = []
slot_lines id (s ∷ D) = slot_line id s ++ (attr_lines (2 ^ 8) 2 id s ++ slot_lines (suc id) D)

-- ---- the whole text
abbrev pub integer : ℤ → List ℕ
integer (pos n) = decimal n
integer (negsuc n) = ascii "-" ++ decimal (suc n)

-- "A refusal prints `refused` and its number"
unfoldable pub refused_line : Refusal → List ℕ
refused_line r = ascii "refused " ++ (integer (refusal_number r) ++ ascii "\n")

-- "for -202 after the erased line"; which logs are regular goes by the rule that was asked for
unfoldable pub dir_lines : Rules → List ℕ → List ℕ
dir_lines r b = cond (Regular r (log b)) (slot_lines 0 (dir_of (log b))) (refused_line Irregular)

-- the record, and the directory behind it
unfoldable pub block_text : Rules → LfsMdir → List ℕ → List ℕ
block_text r m b = record_lines m ++ dir_lines r b

-- What fetch answers for an input, both images one behind the other: "block size is half the length, .. block count 0,
-- seed 0; an odd length or one above 65,536 is -22". The program size and the two block numbers are given.
abbrev pub input_geometry : ℕ → ℕ → Geometry
input_geometry prog size = record { block_size = size; prog_size = prog }

unfoldable pub fetch_input : ℕ → LfsPair → List ℕ → Result Fetched Refusal
fetch_input prog p input =
    cond (eqb (length input % 2) 1 || ltb 65_536 (length input)) (Err Invalid)
    (fetch_of (input_geometry prog (length input / 2)) (take (length input / 2) input) (drop (length input / 2) input)
    p.n0 p.n1 0 0)

-- the text of what fetch answered: a refusal's line, or what `shows` says of the record and of the block that answers
abbrev pub fetched_text : (LfsMdir → List ℕ → List ℕ) → LfsPair → List ℕ → Result Fetched Refusal → List ℕ
fetched_text shows p input (Err r) = refused_line r
fetched_text shows p input (Ok f) =
    shows f.dir (block_at (is_second p.n0 f.dir) (take (length input / 2) input) (drop (length input / 2) input))

-- a text that goes by a rule: 0 or 1, "any other -22"
abbrev pub ruled_text : ℕ → List ℕ → List ℕ
ruled_text rules text = cond (not (rules_fit rules)) (refused_line Invalid) text

-- the listing, by that rule, of a pair of that program size, whose blocks have those numbers
abbrev pub listing_as : ℕ → LfsPair → ℕ → List ℕ → List ℕ
listing_as prog p rules input = ruled_text rules
    (fetched_text (block_text (rules_of rules)) p input (fetch_input prog p input))

-- document 01's own: "program size 16, numbers 0 and 1", and its rule
abbrev pub input_prog : ℕ
input_prog = 16

abbrev pub input_pair : LfsPair
input_pair = record { n0 = 0; n1 = 1 }

abbrev pub input_rules : ℕ
input_rules = 0

abbrev pub listing_of : List ℕ → List ℕ
listing_of input = listing_as input_prog input_pair input_rules input

-- what is left in a buffer that the text was written to: the text as far as there is room, and behind it what was there
abbrev pub written_to : List ℕ → List ℕ → List ℕ
written_to out text = take (length out) text ++ drop (length text) out
