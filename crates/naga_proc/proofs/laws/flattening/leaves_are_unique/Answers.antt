use Rattle.naga_proc.proofs.Flattening.HasLeavesLemmas.{HaveLeaves-one, HasLeaves-one}
use Rattle.naga_proc.proofs.laws.flattening.leaves_are_unique.Goals as goal

pub returns : goal.returns
returns c =
    record {
      of_one = λ arena handle leaves others first second. HasLeaves-one arena first second;
      of_some = λ arena handles leaves others first second. HaveLeaves-one arena first second;
    }
