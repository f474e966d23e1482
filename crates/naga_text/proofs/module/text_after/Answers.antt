use Rattle.std.proofs.Common.{◌≡◌, ◌∙◌, ◌++◌, ap, subst, sym}
use Rattle.std.specs.Prelude.{option_copied, string_bytes}
use Rattle.naga_text.specs.Module.{text_after}
use Rattle.naga_text.specs.Readable.{IsReadable}
use Rattle.naga_text.proofs.ReadableModuleLemmas.{text_after-readable}
use Rattle.naga_text.proofs.module.text_after.Goals as goal

pub returns-clause-readable : goal.returns-clause-readable
returns-clause-readable c =
    let text = text_after (option_copied c.args.old) c.args.module.now in
    let is : string_bytes c.finish.result ≡ text = c.finish.ensures ∙ c.in_ok-push_module.ensures ∙ ap (λ t. t ++ text) c.new-text.ensures in
    subst IsReadable (sym is) (text_after-readable (option_copied c.args.old) c.args.module.now)
