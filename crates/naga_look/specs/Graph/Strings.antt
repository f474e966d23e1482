-- The strings of a graph for Graphviz, which show their text: what Graphviz reads as more than itself is escaped.
use Rattle.std.specs.Prelude.{ℕ, List, [], ◌∷◌, ◌++◌, ◌==◌, if◌then◌else◌, codes, flat_map}

-- a byte of a text: a quote and a backslash have a backslash in front, and an ampersand is written by its name
abbrev pub dot_byte : ℕ → List ℕ
dot_byte byte =
    if byte == 34 then codes "\\\"" else
    if byte == 92 then codes "\\\\" else
    if byte == 38 then codes "&amp;" else byte ∷ []

-- the string that shows a text
abbrev pub dot_escaped : List ℕ → List ℕ
dot_escaped = flat_map dot_byte

-- the label of a node, an edge or a cluster
abbrev pub label_attribute : List ℕ → List ℕ
label_attribute shown = codes "label=\"" ++ (dot_escaped shown ++ codes "\"")
