-- A promise pins its call down: two replies that keep it are the same, and so are the lists that they leave. Assumes nothing.
use mathlib.Core.Path.{◌≡◌, sym, ◌∙◌}
use Rattle.qdldl.specs.Calls.{Answer}
use Rattle.qdldl.specs.Calls.{Outcome, Settles}

pub settled_once : {T : Type 0} (o : Outcome T) (r q : Answer) (t u : T) → Settles o r t → Settles o q u → (r ≡ q) × (t ≡ u)
settled_once o r q t u a b = (a.reply ∙ sym b.reply, a.lists ∙ sym b.lists)
