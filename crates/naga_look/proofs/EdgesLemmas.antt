-- The edges from an expression, reference by reference.
use Rattle.std.proofs.Common.{◌≡◌, ◌∙◌, ap, refl, ℕ, List, [], ◌∷◌, ◌++◌, Option, Some, None}
use Rattle.std.specs.Prelude.{flat_map}
use Rattle.std.specs.List.{cons_option}
use Rattle.naga_valid.specs.Operands.{expression_of, expressions_of}
use Rattle.naga_valid.specs.declared.reference.Reference.{Reference}
use Rattle.naga_look.specs.Graph.{edge_text, optional_edge}
use Rattle.naga_look.specs.declared.graph.cluster.Cluster.{Cluster}

-- the edge to what a reference refers to, if that is an expression
abbrev pub reference_edge : Cluster → ℕ → Reference → List ℕ
reference_edge place from reference = optional_edge place from (expression_of reference)

edges-more : (place : Cluster) (from : ℕ) (to : Option ℕ) (others : List ℕ) → optional_edge place from to ++ flat_map (edge_text place from) others ≡ flat_map (edge_text place from) (cons_option to others)
edges-more place from (Some to) others = refl
edges-more place from None others = refl

-- the edges to what references refer to are those to the expressions among them
pub edges-each : (place : Cluster) (from : ℕ) (references : List Reference) → flat_map (reference_edge place from) references ≡ flat_map (edge_text place from) (expressions_of references)
edges-each place from [] = refl
edges-each place from (reference ∷ others) =
    ap (λ text. reference_edge place from reference ++ text) (edges-each place from others)
    ∙ edges-more place from (expression_of reference) (expressions_of others)
