-- The graph of a module as a text for Graphviz: a cluster for each function, a node for each of its expressions, an edge
-- from an expression to each of its operands, and the control flow of the body.
pub mod Flow
pub mod Names
pub mod Strings
use Rattle.std.specs.Prelude.{ℕ, List, [], ◌++◌, Option, Some, None, codes, flat_map, string_bytes}
use Rattle.std.specs.Fmt.{decimal}
use Rattle.std.specs.List.{enumerate_from}
use Rattle.naga_arena.specs.Arena.{values}
use Rattle.naga_ir.specs.Tree.{Tree}
use Rattle.naga_ir.specs.View.{tree_of}
use Rattle.naga_ir.specs.declared.expression.Expression.{Expression}
use Rattle.naga_ir.specs.declared.module.EntryPoint as entry_point
use Rattle.naga_ir.specs.declared.module.Function as function
use Rattle.naga_ir.specs.declared.module.Module as the_module
use Rattle.naga_text.specs.derived.Expression.{kind_text}
use Rattle.naga_text.specs.Module.{body_before, entry_body_before}
use Rattle.naga_text.specs.Operands.{between}
use Rattle.naga_text.specs.Words.{name_text, quoted}
use Rattle.naga_valid.specs.ElementNames.{name_of_part, text_of}
use Rattle.naga_valid.specs.Operands.{operands_of}
use Rattle.naga_valid.specs.declared.place.Part.TheVariants as part
use Rattle.naga_look.specs.Graph.Flow.{tree_flow}
use Rattle.naga_look.specs.Graph.Names.{referent_name}
use Rattle.naga_look.specs.Graph.Strings.{label_attribute}
use Rattle.naga_look.specs.declared.graph.cluster.Cluster.{Cluster}
use Rattle.naga_look.specs.declared.graph.cluster.Cluster.TheVariants as cluster

-- the identifier of a cluster
abbrev pub cluster_name : Cluster → List ℕ
cluster_name (cluster.Function index) = codes "function" ++ decimal index
cluster_name (cluster.EntryPoint position) = codes "entry" ++ decimal position

-- ---- expressions

-- the identifier of the node of an expression
abbrev pub node_name : Cluster → ℕ → List ℕ
node_name place index = cluster_name place ++ (codes "_" ++ decimal index)

-- the name that a function has for the value of an expression, if there is one
abbrev pub value_name : Option (List ℕ) → List ℕ
value_name (Some name) = quoted name ++ codes " ="
value_name None = []

-- an expression: its handle, the name of its value, its kind, and the name of what it refers to
abbrev pub label_text : the_module.Module → function.Function → ℕ → Expression → List ℕ
label_text whole declared index expression =
    between (codes "[") index (codes "]")
    ++ (value_name (name_of_part declared (part.Expression index))
    ++ (codes " " ++ (kind_text expression ++ name_text (referent_name whole declared expression))))

-- the node of an expression
abbrev pub node_text : the_module.Module → function.Function → Cluster → ℕ → Expression → List ℕ
node_text whole declared place index expression =
    codes "        " ++ (node_name place index ++ (codes " [" ++ (label_attribute (label_text whole declared index expression) ++ codes "]\n")))

-- an edge from an expression to an operand
abbrev pub edge_text : Cluster → ℕ → ℕ → List ℕ
edge_text place from to = codes "        " ++ (node_name place from ++ (codes " -> " ++ (node_name place to ++ codes "\n")))

-- an edge from an expression to an operand, if there is one
abbrev pub optional_edge : Cluster → ℕ → Option ℕ → List ℕ
optional_edge place from (Some to) = edge_text place from to
optional_edge place from None = []

-- the edges from an expression: one for each of its operands, in their order
abbrev pub edges_text : Cluster → ℕ → Expression → List ℕ
edges_text place from expression = flat_map (edge_text place from) (operands_of expression)

-- an expression with its handle: its node, and its edges
abbrev pub expression_text : the_module.Module → function.Function → Cluster → ℕ × Expression → List ℕ
expression_text whole declared place entry = node_text whole declared place entry.0 entry.1 ++ edges_text place entry.0 entry.1

-- ---- functions

-- the identifier of the body of a function
abbrev pub body_name : Cluster → List ℕ
body_name place = cluster_name place ++ codes "_body"

-- the beginning of a cluster with this label
abbrev pub cluster_head : Cluster → (label : List ℕ) → List ℕ
cluster_head place label =
    codes "    subgraph cluster_" ++ (cluster_name place ++ (codes " {\n        " ++ (label_attribute label ++ codes "\n")))

-- a cluster with this label; `old` is the counterpart of the body
abbrev pub cluster_text : the_module.Module → Cluster → (label : List ℕ) → (old : Option Tree) → function.Function → List ℕ
cluster_text whole place label old declared =
    cluster_head place label
    ++ (flat_map (expression_text whole declared place) (enumerate_from 0 (values declared.expressions))
    ++ (tree_flow whole (body_name place) old (tree_of declared.body) ++ codes "    }\n"))

-- the label of a function: its handle and its name
abbrev pub function_label : ℕ → function.Function → List ℕ
function_label index declared = codes "function " ++ (decimal index ++ name_text (text_of declared.name))

-- the cluster of a function with its handle
abbrev pub function_text : the_module.Module → (old : Option the_module.Module) → ℕ × function.Function → List ℕ
function_text whole old entry =
    cluster_text whole (cluster.Function entry.0) (function_label entry.0 entry.1) (body_before old entry) entry.1

-- the label of an entry point: its position and its name
abbrev pub entry_point_label : ℕ → entry_point.EntryPoint → List ℕ
entry_point_label position declared = codes "entry point " ++ (decimal position ++ quoted (string_bytes declared.name))

-- the cluster of an entry point with its position
abbrev pub entry_point_text : the_module.Module → (old : Option the_module.Module) → ℕ × entry_point.EntryPoint → List ℕ
entry_point_text whole old entry =
    cluster_text whole (cluster.EntryPoint entry.0) (entry_point_label entry.0 entry.1) (entry_body_before old entry.0) (entry.1).function

-- ---- modules

-- a module, with marks if there is an old module with which it is compared
abbrev pub dot_after : (old : Option the_module.Module) → the_module.Module → List ℕ
dot_after old whole =
    codes "digraph module {\n    ranksep=0.3\n    nodesep=0.15\n    node [shape=box, height=0.3, margin=\"0.1,0.02\"]\n"
    ++ (flat_map (function_text whole old) (enumerate_from 0 (values whole.functions))
    ++ (flat_map (entry_point_text whole old) (enumerate_from 0 whole.entry_points.items)
    ++ codes "}\n"))

-- a module
abbrev pub module_dot : the_module.Module → List ℕ
module_dot = dot_after None

-- a module, with a mark at each return that the old module does not have at the same place
abbrev pub module_dot_compared : (old new : the_module.Module) → List ℕ
module_dot_compared old new = dot_after (Some old) new
