-- Document 01, The added writer: the bytes of a commit, and how the walk meets them. Assumes nothing.
use Rattle.std.specs.Prelude.{Bool, true, ◌&&◌, List, [], ◌∷◌, ◌++◌, ℕ}
use Rattle.format.specs.Word.{to_be32, to_le32, xor}
use Rattle.format.specs.Tag.{tag_id, tag_size, tag_of}
use Rattle.format.specs.Kind.{no_slot}
use Rattle.format.specs.Crc.{crc}
use Rattle.format.specs.Walk.{Event, ent}
use Rattle.format.specs.Regular.{logged_rule, rule_holds, count_after}
use Rattle.format.specs.Erased.{check_type}

-- "then a check tag .., id 1,023", of the erased byte's type and of a size that the padding decides
abbrev pub check_tag : ℕ → ℕ → ℕ
check_tag e size = tag_of (check_type e) no_slot size

-- An entry to write: its tag, before the XOR, and its data.
pub record Item : Type 0 where
  pub tag : ℕ
  pub body : List ℕ

-- "The bytes: tags chained as above, data, then a check tag .. and the checksum little-endian." `sum` is the checksum
-- and `prev` the previous tag before them, `ct` the check tag; "padding isn't stored".
unfoldable pub commit_bytes : ℕ → ℕ → List Item → ℕ → List ℕ
commit_bytes sum prev [] ct = to_be32 (xor ct prev) ++ to_le32 (crc sum (to_be32 (xor ct prev)))
commit_bytes sum prev (i ∷ is) ct = to_be32 (xor i.tag prev)
    ++ (i.body ++ commit_bytes (crc sum (to_be32 (xor i.tag prev) ++ i.body)) i.tag is ct)

-- the checksum that they end with
unfoldable pub commit_sum : ℕ → ℕ → List Item → ℕ → ℕ
commit_sum sum prev [] ct = crc sum (to_be32 (xor ct prev))
commit_sum sum prev (i ∷ is) ct = commit_sum (crc sum (to_be32 (xor i.tag prev) ++ i.body)) i.tag is ct

-- the entries as the walk meets them, before what it meets behind them
unfoldable pub written : List Item → List Event → List Event
written [] es = es
written (i ∷ is) es = ent i.tag i.body ∷ written is es

-- Of what is laid: each passes the rule of its type in a log, where a forward check and the superblock's name may stand
-- too, at the count that the ones before it leave. For the theory; which entries a call takes is `judge` (Entries).
unfoldable pub items_hold : ℕ → List Item → Bool
items_hold c [] = true
items_hold c (i ∷ is) =
    rule_holds (logged_rule i.tag) c (tag_id i.tag) (tag_size i.tag)
    && items_hold (count_after (logged_rule i.tag) c) is
