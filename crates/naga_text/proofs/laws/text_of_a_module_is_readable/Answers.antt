use Rattle.std.proofs.Common.{Some, None}
use Rattle.naga_text.proofs.ReadableModuleLemmas.{text_after-readable}
use Rattle.naga_text.proofs.laws.text_of_a_module_is_readable.Goals as goal

pub returns : goal.returns
returns c = λ old new. (text_after-readable None new, text_after-readable (Some old) new)
