-- `face::coinravel_analyse` meets its contract: too few words are refused, and else the answer of `Status::analyse` is told in words. What it
-- left in the tables lies behind the lists that were lent.
use Rattle.std.proofs.Common.{rules, refl, ◌∙◌}
use Rattle.analysis.specs.Lent.{tables_of}
use Rattle.face.proofs.Faced.{too_few, told}
use Rattle.face.proofs.coinravel_analyse.Goals as goal

pub returns-then-status-lt-STATUS_WORDS : goal.returns-then-status-lt-STATUS_WORDS
returns-then-status-lt-STATUS_WORDS c = too_few _ _ c.if-status-lt-STATUS_WORDS.true _ (search rules)

pub returns-in-Ok : goal.returns-in-Ok
returns-in-Ok c =
    let f = told _ _ c.if-status-lt-STATUS_WORDS.false _ c.status_of-before.ensures _ _ c.analyse-answer.ensures.settles _ c.in-Ok.is _ refl _ refl _ c.write_status.ensures in
    record {
      answered = f.answered;
      valued = f.valued;
      words = f.words;
      tables = ◌∙◌ {b = tables_of c.analyse-answer.new.out} (search rules) f.tables;
    }

pub returns-in-Err : goal.returns-in-Err
returns-in-Err c =
    let f = told _ _ c.if-status-lt-STATUS_WORDS.false _ c.status_of-before.ensures _ _ c.analyse-answer.ensures.settles _ c.in-Err.is _ (search rules) _ c.value_of.ensures _ refl in
    record {
      answered = f.answered;
      valued = f.valued;
      words = f.words;
      tables = ◌∙◌ {b = tables_of c.analyse-answer.new.out} (search rules) f.tables;
    }
