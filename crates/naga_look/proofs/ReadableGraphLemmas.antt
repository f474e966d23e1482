-- The graph of a module is readable.
use Rattle.std.proofs.Common.{refl, ℕ, List, ◌++◌, subst, sym}
use Rattle.std.specs.Prelude.{◌≡◌, IfOk, Option, Some, None, Result, Ok, Err, String, codes, flat_map, string_bytes}
use Rattle.std.specs.List.{enumerate_from}
use Rattle.naga_arena.specs.Arena.{values}
use Rattle.naga_ir.specs.Tree.{Tree}
use Rattle.naga_ir.specs.View.{tree_of}
use Rattle.naga_ir.specs.declared.expression.Expression.{Expression}
use Rattle.naga_ir.specs.declared.module.EntryPoint as entry_point
use Rattle.naga_ir.specs.declared.module.Function as function
use Rattle.naga_ir.specs.declared.module.Module as the_module
use Rattle.naga_text.specs.Module.{body_before, entry_body_before}
use Rattle.naga_text.specs.Readable.{IsPlain, IsReadable}
use Rattle.naga_text.proofs.ReadableEscapesLemmas.{decimal-plain}
use Rattle.naga_text.proofs.derived_lemmas.ReadableTextsLemmas.{kind_text-plain}
use Rattle.naga_text.proofs.ReadableOperandsLemmas.{between-plain}
use Rattle.naga_text.proofs.ReadableWordsLemmas.{name_text-plain, quoted-plain}
use Rattle.naga_text.proofs.SpellsLemmas.{IsReadable-plain, Spells-after, Spells-append, Spells-ascii, Spells-flat_map, Spells-nil}
use Rattle.naga_valid.specs.ElementNames.{name_of_part, text_of}
use Rattle.naga_valid.specs.Operands.{operands_of}
use Rattle.naga_valid.specs.declared.place.Part.TheVariants as part
use Rattle.naga_look.specs.Graph.{body_name, cluster_head, cluster_name, cluster_text, dot_after, edge_text, edges_text, entry_point_label, entry_point_text, expression_text, function_label, function_text, label_text, node_name, node_text, value_name}
use Rattle.naga_look.specs.Graph.Names.{referent_name}
use Rattle.naga_look.specs.declared.graph.cluster.Cluster.{Cluster}
use Rattle.naga_look.specs.declared.graph.cluster.Cluster.TheVariants as cluster
use Rattle.naga_look.proofs.ReadableFlowLemmas.{tree_flow-readable}
use Rattle.naga_look.proofs.ReadableStringsLemmas.{label_attribute-plain}

cluster_name-plain : (place : Cluster) → IsPlain (cluster_name place)
cluster_name-plain (cluster.Function index) = Spells-after (codes "function") refl (decimal-plain index)
cluster_name-plain (cluster.EntryPoint position) = Spells-after (codes "entry") refl (decimal-plain position)

-- ---- expressions

node_name-plain : (place : Cluster) (index : ℕ) → IsPlain (node_name place index)
node_name-plain place index = Spells-append (cluster_name-plain place) (Spells-after (codes "_") refl (decimal-plain index))

value_name-plain : (name : Option (List ℕ)) → IsPlain (value_name name)
value_name-plain (Some name) = Spells-append (quoted-plain name) (Spells-ascii (codes " =") refl)
value_name-plain None = Spells-nil

edge_text-readable : (place : Cluster) (from to : ℕ) → IsReadable (edge_text place from to)
edge_text-readable place from to =
    Spells-after (codes "        ") refl (Spells-append (IsReadable-plain (node_name-plain place from))
    (Spells-after (codes " -> ") refl (Spells-append (IsReadable-plain (node_name-plain place to)) (Spells-ascii (codes "\n") refl))))

module _ (whole : the_module.Module) (declared : function.Function) (place : Cluster) where
  label_text-plain : (index : ℕ) (expression : Expression) → IsPlain (label_text whole declared index expression)
  label_text-plain index expression =
      Spells-append (between-plain (codes "[") refl index (codes "]") refl)
      (Spells-append (value_name-plain (name_of_part declared (part.Expression index)))
      (Spells-after (codes " ") refl (Spells-append (kind_text-plain expression) (name_text-plain (referent_name whole declared expression)))))

  node_text-readable : (index : ℕ) (expression : Expression) → IsReadable (node_text whole declared place index expression)
  node_text-readable index expression =
      Spells-after (codes "        ") refl (Spells-append (IsReadable-plain (node_name-plain place index)) (Spells-after (codes " [") refl
      (Spells-append (IsReadable-plain (label_attribute-plain (label_text-plain index expression))) (Spells-ascii (codes "]\n") refl))))

  expression_text-readable : (entry : ℕ × Expression) → IsReadable (expression_text whole declared place entry)
  expression_text-readable entry =
      Spells-append (node_text-readable entry.0 entry.1)
      (Spells-flat_map (edge_text place entry.0) (operands_of entry.1) (edge_text-readable place entry.0))

-- ---- functions

cluster_text-readable : (whole : the_module.Module) (place : Cluster) {label : List ℕ} → IsPlain label → (old : Option Tree) (declared : function.Function) → IsReadable (cluster_text whole place label old declared)
cluster_text-readable whole place label old declared =
    Spells-append
    (Spells-after (codes "    subgraph cluster_") refl (Spells-append (IsReadable-plain (cluster_name-plain place)) (Spells-after (codes " {\n        ") refl
    (Spells-append (IsReadable-plain (label_attribute-plain label)) (Spells-ascii (codes "\n") refl)))))
    (Spells-append (Spells-flat_map (expression_text whole declared place) (enumerate_from 0 (values declared.expressions)) (expression_text-readable whole declared place))
    (Spells-append (tree_flow-readable whole (Spells-append (cluster_name-plain place) (Spells-ascii (codes "_body") refl)) old (tree_of declared.body)) (Spells-ascii (codes "    }\n") refl)))

function_text-readable : (whole : the_module.Module) (old : Option the_module.Module) (entry : ℕ × function.Function) → IsReadable (function_text whole old entry)
function_text-readable whole old entry =
    cluster_text-readable whole (cluster.Function entry.0)
    (Spells-after (codes "function ") refl (Spells-append (decimal-plain entry.0) (name_text-plain (text_of (entry.1).name))))
    (body_before old entry) entry.1

entry_point_text-readable : (whole : the_module.Module) (old : Option the_module.Module) (entry : ℕ × entry_point.EntryPoint) → IsReadable (entry_point_text whole old entry)
entry_point_text-readable whole old entry =
    cluster_text-readable whole (cluster.EntryPoint entry.0)
    (Spells-after (codes "entry point ") refl (Spells-append (decimal-plain entry.0) (quoted-plain (string_bytes (entry.1).name))))
    (entry_body_before old entry.0) (entry.1).function

-- ---- modules

pub dot_after-readable : (old : Option the_module.Module) (whole : the_module.Module) → IsReadable (dot_after old whole)
dot_after-readable old whole =
    Spells-after (codes "digraph module {\n    ranksep=0.3\n    nodesep=0.15\n    node [shape=box, height=0.3, margin=\"0.1,0.02\"]\n") refl
    (Spells-append (Spells-flat_map (function_text whole old) (enumerate_from 0 (values whole.functions)) (function_text-readable whole old))
    (Spells-append (Spells-flat_map (entry_point_text whole old) (enumerate_from 0 whole.entry_points.items) (entry_point_text-readable whole old)) (Spells-ascii (codes "}\n") refl)))
