-- The nodes of a graph that are reached from some of them.

-- a node is reached if it is a root, or if a node that is reached leads to it
pub data IsReachable {Node : Type 0} (LeadsTo : Node → Node → Type 0) (IsRoot : Node → Type 0) : Node → Type 0 where
  from_root : {node : Node} → IsRoot node → IsReachable LeadsTo IsRoot node
  by_step : {node next : Node} → IsReachable LeadsTo IsRoot node → LeadsTo node next → IsReachable LeadsTo IsRoot next
