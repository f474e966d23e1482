use Rattle.std.proofs.Common.{◌≡◌, ◌∙◌, ◌++◌, ◌∷◌, [], Some, None, inr, ap, sym, subst, rules}
use Rattle.std.specs.List.{IsDistinct}
use Rattle.std.specs.Map.{keys_of, lookup}
use Rattle.indexmap.specs.Entry.{map_with_value}
use Rattle.indexmap.specs.IndexMap.{insert_entry}
use Rattle.indexmap.proofs.CallerLemmas.{insert_entry-new}
use Rattle.naga_arena.specs.declared.span.Span.{Span}
use Rattle.naga_kinds.specs.contracts.diagnostic_filter.FilterableTriggeringRuleEq.TheImpl.Laws.{laws-law}
use Rattle.naga_kinds.specs.contracts.diagnostic_filter.FilterableTriggeringRulePartialEq.TheImpl as rule_eq
use Rattle.naga_kinds.specs.declared.diagnostic_filter.Severity.{Severity}
use Rattle.naga_kinds.proofs.FirstOfEachLemmas.{first_of_each-known, first_of_each-new}
use Rattle.naga_kinds.proofs.diagnostic_filter.DiagnosticFilterMap.add.Goals as goal

pub returns-in-Vacant-clause-added : goal.returns-in-Vacant-clause-added
returns-in-Vacant-clause-added c =
    let pairs = c.args.self.now in
    let key = c.args.diagnostic_filter.triggering_rule in
    let said : Severity × Span = (c.args.diagnostic_filter.new_severity, c.args.span) in
    let distinct : IsDistinct rule_eq.ghosts.eq (keys_of pairs) = subst (λ es. IsDistinct rule_eq.ghosts.eq (keys_of es)) c.self.view_is c.entry.ensures.unique in
    let absent : lookup (rule_eq.ghosts.eq key) c.self.inside.0.entries ≡ None = rw c.in-Vacant.is at c.in-Ok.ensures.found in
    let none : lookup (rule_eq.ghosts.eq key) pairs ≡ None = subst (λ es. lookup (rule_eq.ghosts.eq key) es ≡ None) c.self.view_is absent in
    let put : insert_entry rule_eq.ghosts.eq c.self.inside.0.entries key said ≡ c.self.inside.0.entries ++ (key, said) ∷ [] = insert_entry-new rule_eq.ghosts.eq c.self.inside.0 key said absent in
    let grown : (map_with_value c.in-Ok.entry said).entries ≡ pairs ++ (key, said) ∷ [] = c.in-Ok.ensures.update.1 said ∙ put ∙ ap (λ es. es ++ (key, said) ∷ []) c.self.view_is in
    let left = first_of_each-new laws-law pairs distinct key said none in
    inr (rw (left ∙ sym grown) (search rules))

pub returns-clause-added : goal.returns-clause-added
returns-clause-added c =
    let pairs = c.args.self.now in
    let key = c.args.diagnostic_filter.triggering_rule in
    let distinct : IsDistinct rule_eq.ghosts.eq (keys_of pairs) = subst (λ es. IsDistinct rule_eq.ghosts.eq (keys_of es)) c.self.view_is c.entry.ensures.unique in
    let known : lookup (rule_eq.ghosts.eq key) pairs ≡ Some c.get.result.now = search rules in
    let left = first_of_each-known laws-law pairs distinct key (c.args.diagnostic_filter.new_severity, c.args.span) c.get.result.now known in
    inr (rw left (search rules))

pub returns-2-clause-added : goal.returns-2-clause-added
returns-2-clause-added c =
    let pairs = c.args.self.now in
    let key = c.args.diagnostic_filter.triggering_rule in
    let distinct : IsDistinct rule_eq.ghosts.eq (keys_of pairs) = subst (λ es. IsDistinct rule_eq.ghosts.eq (keys_of es)) c.self.view_is c.entry.ensures.unique in
    let known : lookup (rule_eq.ghosts.eq key) pairs ≡ Some c.get.result.now = cc (c.in-Ok.ensures.value, c.in-Occupied.is, c.get.ensures, c.self.view_is) in
    let left = first_of_each-known laws-law pairs distinct key (c.args.diagnostic_filter.new_severity, c.args.span) c.get.result.now known in
    inr (rw left (search rules))
