-- The result of a statement is among the expressions to which the statement refers.
use Rattle.std.proofs.Common.{ℕ, List, [], ◌∷◌, ◌++◌, Option, Some, None, refl, sym, subst, option_to_list, arith}
use Rattle.std.proofs.lemmas.List.Elements.{Contains-append_right, filter_map-append}
use Rattle.std.specs.List.{Contains}
use Rattle.std.specs.Option.{option_map}
use Rattle.naga_ir.specs.declared.statement.RayQueryFunction.{RayQueryFunction}
use Rattle.naga_ir.specs.declared.statement.RayQueryFunction.TheVariants.{Proceed}
use Rattle.naga_ir.specs.declared.statement.Statement.{Statement, Atomic, Call, RayQuery, SubgroupBallot, SubgroupCollectiveOperation, SubgroupGather, WorkGroupUniformLoad}
use Rattle.naga_valid.specs.Operands.{expression_of, expressions_of}
use Rattle.naga_valid.specs.Reference.{operands, present}
use Rattle.naga_valid.specs.Statements.{operand_of_atomic_function, operand_of_gather_mode, references_of_statement}
use Rattle.naga_valid.specs.declared.reference.Reference.TheVariants as reference
use Rattle.naga_flow.specs.Results.{result_of}

abbrev pub ResultIsNamed : Option ℕ → List ℕ → Type 0
ResultIsNamed None names = Unit {0}
ResultIsNamed (Some result) names = Contains names result

last_named : (x y z : Option ℕ) (result : Option ℕ) → ResultIsNamed result (expressions_of (present (x ∷ y ∷ z ∷ result ∷ [])))
last_named x y z None = tt
last_named None None None (Some r) = (0, omega arith, refl)
last_named None None (Some c) (Some r) = (1, omega arith, refl)
last_named None (Some b) None (Some r) = (1, omega arith, refl)
last_named None (Some b) (Some c) (Some r) = (2, omega arith, refl)
last_named (Some a) None None (Some r) = (1, omega arith, refl)
last_named (Some a) None (Some c) (Some r) = (2, omega arith, refl)
last_named (Some a) (Some b) None (Some r) = (2, omega arith, refl)
last_named (Some a) (Some b) (Some c) (Some r) = (3, omega arith, refl)

call_named : (arguments : List ℕ) (result : Option ℕ) → ResultIsNamed result (expressions_of (operands arguments ++ option_to_list (option_map reference.Expression result)))
call_named arguments None = tt
call_named arguments (Some r) =
    subst (λ xs. Contains xs r) (sym (filter_map-append expression_of (operands arguments) (reference.Expression r ∷ [])))
    (Contains-append_right (expressions_of (operands arguments)) (r ∷ []) r (0, omega arith, refl))

query_named : (query : ℕ) (fun : RayQueryFunction) → ResultIsNamed (result_of (RayQuery query fun)) (expressions_of (references_of_statement (RayQuery query fun)))
query_named query (Proceed x) = (1, omega arith, refl)
query_named query _ = tt

pub result-named : (s : Statement) → ResultIsNamed (result_of s) (expressions_of (references_of_statement s))
result-named (Atomic pointer fun value result) = last_named (Some pointer) (operand_of_atomic_function fun) (Some value) result
result-named (WorkGroupUniformLoad pointer result) = (1, omega arith, refl)
result-named (Call function arguments result) = call_named arguments.items result
result-named (RayQuery query fun) = query_named query fun
result-named (SubgroupBallot result predicate) = (0, omega arith, refl)
result-named (SubgroupGather mode argument result) = last_named None (operand_of_gather_mode mode) (Some argument) (Some result)
result-named (SubgroupCollectiveOperation op collective_op argument result) = (1, omega arith, refl)
result-named _ = tt
