use Rattle.std.proofs.Common.{[], ◌∷◌, codes, ℕ}
use Rattle.krs_ctl.proofs.CommandLineLemmas.{word_alone}
use Rattle.krs_ctl.proofs.choice.is_script.Goals as goal

pub returns-in-len1 : goal.returns-in-len1
returns-in-len1 c =
    word_alone (codes "script") c.args.words.now c.eq.result c.in-len1.len_at_least c.in-len1.len_below
    (λ word is. rw is at c.eq.ensures)
