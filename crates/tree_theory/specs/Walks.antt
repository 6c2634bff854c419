-- Two walks, step by step: what holds of their parts holds of them. `L` is known of the two allowances before each
-- part, and `R` of the parts. Assumes nothing.
use mathlib.Core.List.{List, [], ◌∷◌}
use Rattle.std.specs.Prelude.{ℕ, suc, None, Option, Some}
use Rattle.format.specs.Tree.{Node, Opened, refused, holding, Walk, ended, stopped, shown, and_then, inside, slot_walk}
use Rattle.format.specs.Tree.{walk_opened}
use Rattle.format.specs.declared.LfsPair.{LfsPair}
use Rattle.format.specs.declared.Refusal.{Refusal}

-- what is said of pairs, of those that stand in a directory's entries, and of those that an opened pair names
abbrev pub Into : (LfsPair → Type 0) → Option LfsPair → Type 0
Into P None = Unit {0}
Into P (Some p) = P p

abbrev pub AllInto : (LfsPair → Type 0) → List Node → Type 0
AllInto P [] = Unit {0}
AllInto P (n ∷ ns) = Into P n.into × AllInto P ns

abbrev pub Names : (LfsPair → Type 0) → Opened → Type 0
Names P (refused r) = Unit {0}
Names P (holding ns tail) = AllInto P ns × Into P tail

-- of every pair there is nothing to say
abbrev pub Any : LfsPair → Type 0
Any p = Unit {0}

any_into : (o : Option LfsPair) → Into Any o
any_into None = tt
any_into (Some p) = tt

any_all : (ns : List Node) → AllInto Any ns
any_all [] = tt
any_all (n ∷ ns) = (any_into n.into, any_all ns)

pub any_named : (o : Opened) → Names Any o
any_named (refused r) = tt
any_named (holding ns tail) = (any_all ns, any_into tail)

-- the parts of a walk
pub record Related (L : ℕ → ℕ → Type 0) (R : Walk → Walk → Type 0) : Type 0 where
  pub ends : (a b : ℕ) → L a b → R (ended a) (ended b)
  pub stops : (r : Refusal) (a b : ℕ) → L a b → R (stopped r a) (stopped r b)
  pub shows : (depth : ℕ) (n : Node) (a b : ℕ) → L a b → R (shown depth n a) (shown depth n b)
  pub joins : (w v : Walk) (f h : ℕ → Walk) → R w v → ((a b : ℕ) → L a b → R (f a) (h b))
      → R (and_then w f) (and_then v h)

module _ (L : ℕ → ℕ → Type 0) (R : Walk → Walk → Type 0) (k : Related L R) (P : LfsPair → Type 0) where
  -- two ways to walk a pair
  abbrev pub Alike : (LfsPair → ℕ → Walk) → (LfsPair → ℕ → Walk) → Type 0
  Alike walk other = (p : LfsPair) → P p → (a b : ℕ) → L a b → R (walk p a) (other p b)

  inside_alike : (walk other : LfsPair → ℕ → Walk) → Alike walk other → (o : Option LfsPair) → Into P o
      → (a b : ℕ) → L a b → R (inside walk o a) (inside other o b)
  inside_alike walk other h None i a b l = k.ends a b l
  inside_alike walk other h (Some p) i a b l = h p i a b l

  slots_alike : (walk other : LfsPair → ℕ → Walk) → Alike walk other → (depth : ℕ) (ns : List Node) → AllInto P ns
      → (a b : ℕ) → L a b → R (slot_walk walk depth ns a) (slot_walk other depth ns b)
  unfolding slot_walk
  slots_alike walk other h depth [] i a b l = k.ends a b l
  slots_alike walk other h depth (n ∷ ns) i a b l =
      k.joins (shown depth n a) (shown depth n b) _ _ (k.shows depth n a b l)
      (λ c d m. k.joins (inside walk n.into c) (inside other n.into d) _ _
      (inside_alike walk other h n.into i.0 c d m)
      (λ x y z. slots_alike walk other h depth ns i.1 x y z))

  pub opened_alike : (walk other : ℕ → LfsPair → ℕ → Walk) → ((depth : ℕ) → Alike (walk depth) (other depth))
      → (depth : ℕ) (o : Opened) → Names P o → (a b : ℕ) → L a b
      → R (walk_opened walk depth o a) (walk_opened other depth o b)
  opened_alike walk other h depth (refused r) i a b l = k.stops r a b l
  opened_alike walk other h depth (holding ns tail) i a b l =
      k.joins (slot_walk (walk (suc depth)) depth ns a) (slot_walk (other (suc depth)) depth ns b) _ _
      (slots_alike (walk (suc depth)) (other (suc depth)) (h (suc depth)) depth ns i.0 a b l)
      (λ c d m. inside_alike (walk depth) (other depth) (h depth) tail i.1 c d m)
