-- Bytes that are appended one after another.
use Rattle.std.proofs.Common.{◌∙◌, ap, List, ℕ, ◌++◌, Option, None, Some}
use Rattle.std.proofs.lemmas.List.{append_assoc}
use Rattle.std.specs.Io.KnownBytes.{Appends}

pub Appends-join : (old mid new : Option (List ℕ)) (first second : List ℕ)
    → Appends old mid first → Appends mid new second → Appends old new (first ++ second)
Appends-join None mid new first second one two = tt
Appends-join (Some bytes) None new first second one two = absurd one
Appends-join (Some bytes) (Some more) None first second one two = absurd two
Appends-join (Some bytes) (Some more) (Some all) first second one two = two ∙ ap (λ front. front ++ second) one ∙ append_assoc bytes first second
