use Rattle.std.proofs.Common.{rules}
use Rattle.std.proofs.lemmas.List.Sorted.{answers_always}
use lib.Dec.{ltb}
use Rattle.csc.proofs.Rises.{rises_answer}
use Rattle.csc.proofs.rising.Goals as goal

pub returns : goal.returns
returns c = rises_answer _ _ (c.is_sorted_by.ensures.cases ltb (answers_always _ _ _ (λ f a r g h. search rules)))
