-- Values with parts at offsets, and paths of accesses into them.
use Rattle.std.specs.Prelude.{◌≡◌, ℕ, ◌+◌, ◌≤◌, ◌⊎◌, List, [], ◌∷◌, Option, Some, None}

module _ {Node : Type 0} (size : Node → ℕ) (part : Node → ℕ → Option (ℕ × Node)) where
  -- the path leads from the first node to this offset in it, where the last node begins
  abbrev pub Reaches : Node → List ℕ → ℕ → Node → Type 0
  Reaches node [] offset last = (offset ≡ 0) × (node ≡ last)
  Reaches node (i ∷ path) offset last = (step : ℕ × Node) × (part node i ≡ Some step)
      × (rest : ℕ) × (offset ≡ step.0 + rest) × Reaches step.1 path rest last

  -- the node has no parts
  abbrev pub IsLeaf : Node → Type 0
  IsLeaf node = (i : ℕ) → part node i ≡ None

  -- two ranges of bytes share none
  abbrev pub AreDisjoint : (offset other : ℕ) (node second : Node) → Type 0
  AreDisjoint offset other node second = (offset + size node ≤ other) ⊎ (other + size second ≤ offset)
