use Rattle.std.proofs.Common.{◌∙◌, sym, ap, Some, Err}
use Rattle.std.proofs.lemmas.Iterator.Adapters.{YieldsList-from_vec}
use Rattle.std.proofs.lemmas.Iterator.Consumers.{YieldsList-from_enumerate}
use Rattle.std.proofs.lemmas.List.{length_push}
use Rattle.naga_proc.proofs.Building.IsAtTurnLemmas.{next-command, IsAtTurn-Start, IsAtTurn-Append, IsAtTurn-Push, IsAtTurn-Finish, Refused-Append, Refused-Finish, IfErr-refusal_of}
use Rattle.naga_proc.proofs.builder.build.Goals as goal

pub commands-preserved-in-Start : goal.commands-preserved-in-Start
commands-preserved-in-Start c =
    let items = c.args.commands.items in
    let turn = next-command items c.commands.yielded c.commands.position-iterator c.next.new.self c.next.result c.in-Some.position c.in-Some.command c.commands.yielded_by c.in-Some.is c.next.ensures.steps (YieldsList-from_enumerate (YieldsList-from_vec items (cc) (cc)) (cc)) in
    IsAtTurn-Start items _ _ _ _ _ _ _ (turn.1 ∙ ap Some c.in-Start.is) (length_push c.commands.yielded _) (sym c.is_running.ensures ∙ c.if-is_running.false) c.start.ensures c.commands.invariant

pub commands-preserved-in_ok-append-in-Append : goal.commands-preserved-in_ok-append-in-Append
commands-preserved-in_ok-append-in-Append c =
    let items = c.args.commands.items in
    let turn = next-command items c.commands.yielded c.commands.position-iterator c.next.new.self c.next.result c.in-Some.position c.in-Some.command c.commands.yielded_by c.in-Some.is c.next.ensures.steps (YieldsList-from_enumerate (YieldsList-from_vec items (cc) (cc)) (cc)) in
    IsAtTurn-Append items _ _ _ _ _ _ _ _ _ (turn.1 ∙ ap Some c.in-Append.is) (length_push c.commands.yielded _) c.in_ok-append-in-Append.ensures.appended c.commands.invariant

pub returns-in_err-append-in-Append-clause-refused :
    goal.returns-in_err-append-in-Append-clause-refused
returns-in_err-append-in-Append-clause-refused c =
    let items = c.args.commands.items in
    let turn = next-command items c.commands.yielded c.commands.position-iterator c.next.new.self c.next.result c.in-Some.position c.in-Some.command c.commands.yielded_by c.in-Some.is c.next.ensures.steps (YieldsList-from_enumerate (YieldsList-from_vec items (cc) (cc)) (cc)) in
    let error = c.in_err-append-in-Append.field-0.0 in
    let refused = Refused-Append items _ _ _ _ _ _ error _ (turn.1 ∙ ap Some c.in-Append.is) (λ e. c.in_err-append-in-Append.ensures.full.0 (ap Err e)) c.commands.invariant in
    IfErr-refusal_of items error c.from_residual.result c.from_residual.ensures.1 refused

pub returns-then-not-is_running-clause-refused : goal.returns-then-not-is_running-clause-refused
returns-then-not-is_running-clause-refused c =
    let items = c.args.commands.items in
    let turn = next-command items c.commands.yielded c.commands.position-iterator c.next.new.self c.next.result c.in-Some.position c.in-Some.command c.commands.yielded_by c.in-Some.is c.next.ensures.steps (YieldsList-from_enumerate (YieldsList-from_vec items (cc) (cc)) (cc)) in
    Refused-Finish items _ _ _ _ c.in-Some.position _ turn.0 (turn.1 ∙ ap Some c.in-Finish.is) (sym c.is_running-in-Finish.ensures ∙ c.if-not-is_running.true) c.commands.invariant

pub commands-preserved-in-Continue-branch-2 : goal.commands-preserved-in-Continue-branch-2
commands-preserved-in-Continue-branch-2 c =
    let items = c.args.commands.items in
    let turn = next-command items c.commands.yielded c.commands.position-iterator c.next.new.self c.next.result c.in-Some.position c.in-Some.command c.commands.yielded_by c.in-Some.is c.next.ensures.steps (YieldsList-from_enumerate (YieldsList-from_vec items (cc) (cc)) (cc)) in
    let done = c.in_ok-finish-in-Finish.ensures in
    IsAtTurn-Finish items _ _ _ _ _ _ _ _ _ _ (turn.1 ∙ ap Some c.in-Finish.is) (length_push c.commands.yielded _) (sym c.is_running-in-Finish.ensures ∙ c.if-not-is_running.false) done.expressions done.block done.emitted done.stopped c.commands.invariant

pub commands-preserved : goal.commands-preserved
commands-preserved c =
    let items = c.args.commands.items in
    let turn = next-command items c.commands.yielded c.commands.position-iterator c.next.new.self c.next.result c.in-Some.position c.in-Some.command c.commands.yielded_by c.in-Some.is c.next.ensures.steps (YieldsList-from_enumerate (YieldsList-from_vec items (cc) (cc)) (cc)) in
    IsAtTurn-Push items _ _ _ _ _ _ _ _ _ (turn.1 ∙ ap Some c.in-Push.is) (length_push c.commands.yielded _) c.in_ok-push-in-Push.ensures.ok c.commands.invariant
