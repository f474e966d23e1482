-- Facts that hold for all bodies of a module.
use Rattle.std.proofs.Common.{subst, sym, List, [], ◌∷◌}
use Rattle.std.proofs.lemmas.List.Elements.{All-contains, All-head, All-tail, All-weaker}
use Rattle.std.specs.List.{All}
use Rattle.naga_arena.specs.declared.span.Span.{Span}
use Rattle.naga_ir.specs.Tree.{Tree}
use Rattle.naga_ir.specs.declared.module.EntryPoint as entry_point
use Rattle.naga_ir.specs.declared.module.Function as function
use Rattle.naga_ir.specs.declared.module.Module as the_module
use Rattle.naga_proc.proofs.AllLemmas.{All-zipped}
use Rattle.naga_passes.specs.After.{After}
use Rattle.naga_passes.specs.Bodies.{AllBodies, BodiesComeFrom, ComesFrom, body_of, entry_body_of}
use Rattle.naga_passes.specs.Runs.{InsertsNothing, TransformsBody}
use Rattle.naga_passes.specs.declared.pass.Pass.{Pass}
use Rattle.naga_passes.proofs.BodiesComeFromLemmas.{BodiesComeFrom-transformed}

module _ (P Q : Tree → Type 0) where
  pub AllBodies-weaker : ((b : Tree) → P b → Q b) → (whole : the_module.Module) → AllBodies P whole → AllBodies Q whole
  AllBodies-weaker weaker whole all = record {
    functions = All-weaker (λ (entry : function.Function × Span). P (body_of entry)) (λ (entry : function.Function × Span). Q (body_of entry)) (λ entry. weaker (body_of entry)) whole.functions all.functions;
    entry_points = All-weaker (λ (entry : entry_point.EntryPoint). P (entry_body_of entry)) (λ (entry : entry_point.EntryPoint). Q (entry_body_of entry)) (λ entry. weaker (entry_body_of entry)) whole.entry_points.items all.entry_points;
  }

  -- what follows for each new body
  pub AllBodies-from : (R : Tree → Tree → Type 0) → ((b c : Tree) → R b c → P b → Q c) → (old new : the_module.Module) → BodiesComeFrom R old new → AllBodies P old → AllBodies Q new
  AllBodies-from R follows old new from all = record {
    functions = All-weaker (λ (entry : function.Function × Span). ComesFrom R old.functions (body_of entry)) (λ (entry : function.Function × Span). Q (body_of entry))
        (λ entry is. follows (body_of is.0) (body_of entry) is.2 (All-contains (λ (before : function.Function × Span). P (body_of before)) old.functions is.0 all.functions is.1))
        new.functions from.functions;
    entry_points = All-zipped (λ (before after : entry_point.EntryPoint). R (entry_body_of before) (entry_body_of after)) (λ (entry : entry_point.EntryPoint). P (entry_body_of entry)) (λ (entry : entry_point.EntryPoint). Q (entry_body_of entry))
        (λ before after. follows (entry_body_of before) (entry_body_of after)) old.entry_points.items new.entry_points.items from.entry_points all.entry_points;
  }

-- what passes that insert nothing keep of each body
pub After-AllBodies : (P : Tree → Type 0) → ((pass : Pass) → InsertsNothing pass → (b c : Tree) → TransformsBody pass b c → P b → P c) → (passes : List Pass) (old new : the_module.Module) → All InsertsNothing passes → After passes old new → AllBodies P old → AllBodies P new
After-AllBodies P keeps [] old new insert after all = subst (AllBodies P) (sym after) all
After-AllBodies P keeps (pass ∷ others) old new insert after all =
    After-AllBodies P keeps others after.0 new (All-tail InsertsNothing pass others insert) after.2
    (AllBodies-from P P (TransformsBody pass) (keeps pass (All-head InsertsNothing pass others insert)) old after.0 (BodiesComeFrom-transformed pass old after.0 after.1) all)
