-- Document 01: the status, what every call answers, and the read-outs. Assumes nothing.
use Rattle.std.specs.Prelude.{ℕ, ◌≡◌, Bool, true, false, cond, List, [], Result, Ok, Err}
use Rattle.desk.specs.declared.Refusal.{Refusal}
use Rattle.desk.specs.Desk.{Verdict, number_of, values_of}
use Rattle.qdldl.specs.declared.Phase.{Phase}
use Rattle.qdldl.specs.declared.Phase.TheVariants.{Empty, Analysed, Logical, Numeric, Failed}
use Rattle.qdldl.specs.declared.Status.{Status}
use Rattle.qdldl.specs.declared.Refused.{Refused}

-- "Status is Empty, Analysed, Logical, Numeric or Failed, with n, m, the length of L, inertia and shift count"
abbrev pub status : Phase → ℕ → ℕ → ℕ → ℕ → ℕ → Status
status phase n m nnzl inertia shifts =
    record { phase = phase; n = n; m = m; nnzl = nnzl; inertia = inertia; shifts = shifts }

-- the status before any call
abbrev pub empty : Status
empty = status Empty 0 0 0 0 0

abbrev pub is_empty : Phase → Bool
is_empty Empty = true
is_empty Analysed = false
is_empty Logical = false
is_empty Numeric = false
is_empty Failed = false

abbrev pub is_numeric : Phase → Bool
is_numeric Empty = false
is_numeric Analysed = false
is_numeric Logical = false
is_numeric Numeric = true
is_numeric Failed = false

-- what a call answers: the next status, or a refusal with the status that it leaves
abbrev pub Answer : Type 0
Answer = Result Status Refused

-- a refusal, with the status handed back
abbrev pub refuse : Refusal → Status → Refused
refuse r s = record { refusal = r; status = s }

-- the paper's number, values and status of an answer
abbrev pub answer_number : Answer → ℕ
answer_number (Ok s) = 0
answer_number (Err e) = number_of e.refusal

abbrev pub answer_values : Answer → List ℕ
answer_values (Ok s) = []
answer_values (Err e) = values_of e.refusal

abbrev pub answer_status : Answer → Status
answer_status (Ok s) = s
answer_status (Err e) = e.status

-- a call's outcome: the answer, and the lent tables afterwards
pub record Outcome (T : Type 0) : Type 0 where
  pub answer : Answer
  pub tables : T

abbrev pub outcome : {T : Type 0} → Answer → T → Outcome T
outcome answer tables = record { answer = answer; tables = tables }

-- "Every refusal but 14 hands back status and all buffers untouched, scratch aside."
unfoldable pub settled : {T : Type 0} → Verdict → Status → T → Outcome T → Outcome T
settled (Ok u) s tables done = done
settled (Err r) s tables done = outcome (Err (refuse r s)) tables

-- a call's promise: its reply, and every list lent to it afterwards, are the outcome's
pub record Settles {T : Type 0} (o : Outcome T) (r : Answer) (t : T) : Type 0 where
  pub reply : r ≡ o.answer
  pub lists : t ≡ o.tables

-- "On Empty the four read-outs are 0; else nnz_a is the status's m and nnz_l its length of L."
abbrev pub read_out : Status → ℕ → ℕ
read_out s x = cond (is_empty s.phase) 0 x

abbrev pub nnz_a : Status → ℕ
nnz_a s = read_out s s.m

abbrev pub nnz_l : Status → ℕ
nnz_l s = read_out s s.nnzl

abbrev pub positive_inertia : Status → ℕ
positive_inertia s = read_out s s.inertia

abbrev pub regularize_count : Status → ℕ
regularize_count s = read_out s s.shifts
