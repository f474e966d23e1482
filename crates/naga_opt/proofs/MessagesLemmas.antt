-- Lemmas on specs/Messages.antt.
use Rattle.std.proofs.Common.{◌≡◌, ◌∙◌, ap, ℕ, List, ◌++◌, Option, subst, sym}
use Rattle.std.proofs.lemmas.List.{append_assoc}
use Rattle.std.specs.Io.KnownBytes.{Appends}
use Rattle.std.specs.Prelude.{Result, codes}
use Rattle.std.specs.declared.io.Error.{Error}
use Rattle.naga_opt.specs.Messages.{PrintsArgumentFault, PrintsFailure, PrintsFault, PrintsLine, input_name_of, wrong_text}
use Rattle.naga_opt.proofs.AppendsLemmas.{Appends-join}
use Rattle.naga_opt.specs.Arguments.{flag_text}
use Rattle.naga_opt.specs.declared.flag.Flag.{Flag}
use Rattle.naga_opt.specs.declared.report.ArgumentFault.{ArgumentFault}
use Rattle.naga_opt.specs.declared.report.ArgumentFault.TheVariants.{Exclude}
use Rattle.naga_opt.specs.declared.usage.TheConstants.{USAGE}
use Rattle.naga_opt.specs.declared.report.ProgramFault.{ProgramFault}
use Rattle.naga_opt.specs.declared.report.ProgramFault.TheVariants.{Input}
use Rattle.naga_opt.specs.declared.task.Command.{Command}

pub PrintsFault-input : (given : Result Command ProgramFault) (fault : ProgramFault) (error : Error) (name : List ℕ)
    (old new : Option (List ℕ)) → fault ≡ Input error → name ≡ input_name_of given
    → PrintsFailure (codes "cannot read ") name old new → PrintsFault given fault old new
PrintsFault-input given fault error name old new is same printed =
    subst (λ f. PrintsFault given f old new) (sym is) (subst (λ n. PrintsFailure (codes "cannot read ") n old new) same printed)

-- the parts of the message for a failed call, one after another
failure-parts : (what name reason : List ℕ)
    → what ++ (name ++ (codes ": " ++ (reason ++ codes "\n"))) ≡ (what ++ (name ++ (codes ": " ++ reason))) ++ codes "\n"
failure-parts what name reason =
    sym
    (append_assoc what (name ++ (codes ": " ++ reason)) (codes "\n")
    ∙ ap (λ rest. what ++ rest) (append_assoc name (codes ": " ++ reason) (codes "\n")))

pub PrintsFailure-parts : (what name reason : List ℕ) (old mid new : Option (List ℕ))
    → Appends old mid (codes "naga_opt: " ++ (what ++ name)) → Appends mid new (codes ": " ++ (reason ++ codes "\n"))
    → PrintsFailure what name old new
PrintsFailure-parts what name reason old mid new start rest = (
  reason,
  subst (λ text. Appends old new (codes "naga_opt: " ++ text)) (append_assoc what name (codes ": " ++ (reason ++ codes "\n")) ∙ failure-parts what name reason)
      (Appends-join old mid new (codes "naga_opt: " ++ (what ++ name)) (codes ": " ++ (reason ++ codes "\n")) start rest),
)

-- the parts of the message for an unknown name, one after another
unknown-parts : (name names usage : List ℕ)
    → name ++ (codes " (passes: " ++ (names ++ (codes ")\n" ++ (usage ++ codes "\n"))))
    ≡ ((name ++ (codes " (passes: " ++ (names ++ codes ")"))) ++ (codes "\n" ++ usage)) ++ codes "\n"
unknown-parts name names usage =
    sym
    (append_assoc (name ++ (codes " (passes: " ++ (names ++ codes ")"))) (codes "\n" ++ usage) (codes "\n")
    ∙ append_assoc name (codes " (passes: " ++ (names ++ codes ")")) (codes "\n" ++ (usage ++ codes "\n"))
    ∙ ap (λ rest. name ++ (codes " (passes: " ++ rest)) (append_assoc names (codes ")") (codes "\n" ++ (usage ++ codes "\n"))))

pub PrintsLine-unknown : (name names usage : List ℕ) (old new : Option (List ℕ))
    → Appends old new (codes "naga_opt: unknown pass: " ++ (name ++ (codes " (passes: " ++ (names ++ (codes ")\n" ++ (usage ++ codes "\n"))))))
    → PrintsLine ((codes "unknown pass: " ++ (name ++ (codes " (passes: " ++ (names ++ codes ")")))) ++ (codes "\n" ++ usage)) old new
PrintsLine-unknown name names usage old new =
    subst (λ text. Appends old new (codes "naga_opt: unknown pass: " ++ text)) (unknown-parts name names usage)

-- ---- wrong arguments

-- the parts of the message for two options, and how the program is used
exclusion-parts : (first second usage : List ℕ)
    → first ++ (codes " and " ++ (second ++ (codes " exclude each other\n" ++ (usage ++ codes "\n"))))
    ≡ ((first ++ (codes " and " ++ (second ++ codes " exclude each other"))) ++ (codes "\n" ++ usage)) ++ codes "\n"
exclusion-parts first second usage =
    sym
    (append_assoc (first ++ (codes " and " ++ (second ++ codes " exclude each other"))) (codes "\n" ++ usage) (codes "\n")
    ∙ append_assoc first (codes " and " ++ (second ++ codes " exclude each other")) (codes "\n" ++ (usage ++ codes "\n"))
    ∙ ap (λ rest. first ++ (codes " and " ++ rest)) (append_assoc second (codes " exclude each other") (codes "\n" ++ (usage ++ codes "\n"))))

pub PrintsArgumentFault-exclude : (first second : Flag) (shown other : List ℕ) (old new : Option (List ℕ))
    → shown ≡ flag_text first → other ≡ flag_text second
    → Appends old new (codes "naga_opt: " ++ (shown ++ (codes " and " ++ (other ++ (codes " exclude each other\n" ++ (USAGE.now ++ codes "\n"))))))
    → PrintsArgumentFault (Exclude first second) old new
PrintsArgumentFault-exclude first second shown other old new is also printed =
    subst (λ s. PrintsLine ((s ++ (codes " and " ++ (flag_text second ++ codes " exclude each other"))) ++ (codes "\n" ++ USAGE.now)) old new) is
    (subst (λ s. PrintsLine ((shown ++ (codes " and " ++ (s ++ codes " exclude each other"))) ++ (codes "\n" ++ USAGE.now)) old new) also
    (subst (λ t. Appends old new (codes "naga_opt: " ++ t)) (exclusion-parts shown other USAGE.now) printed))

pub PrintsArgumentFault-same : (wrong at : ArgumentFault) (text : List ℕ) (old new : Option (List ℕ)) → wrong ≡ at → text ≡ wrong_text at
    → PrintsLine (text ++ (codes "\n" ++ USAGE.now)) old new → PrintsArgumentFault wrong old new
PrintsArgumentFault-same wrong at text old new is same printed =
    subst (λ w. PrintsArgumentFault w old new) (sym is) (subst (λ t. PrintsLine (t ++ (codes "\n" ++ USAGE.now)) old new) same printed)
