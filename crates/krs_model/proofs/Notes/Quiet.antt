-- An ask without the mark *tells* has no note.
use Rattle.std.proofs.Common.{[], ◌≡◌, arith, false, refl, true≢false, ℕ}
use Rattle.krs_types.specs.{Rows.row_of, declared.ask.Answer.Answer}
use Rattle.krs_types.specs.declared.ask.Op.{Op, TheVariants.{Add, Chown, Clear, Invalidate, Link, Move, Request}}
use Rattle.krs_types.specs.declared.ask.Op.TheVariants.{Revoke, Search, SetPerm, SetTimeout, Unlink, Update}
use Rattle.krs_model.specs.{Notes.Telling.{notes_of}, State.State}
use Rattle.std.proofs.lemmas.Grind.{common_steps}

pub tells_none : (s : State) (client context : ℕ) (op : Op) (answer : Answer) → (row_of op).tells ≡ false
    → notes_of s client context op answer ≡ []
tells_none s client context (Update id payload) answer h = absurd (true≢false h)
tells_none s client context (Revoke id) answer h = absurd (true≢false h)
tells_none s client context (Invalidate id) answer h = absurd (true≢false h)
tells_none s client context (Clear id) answer h = absurd (true≢false h)
tells_none s client context (Chown id uid gid) answer h = absurd (true≢false h)
tells_none s client context (SetPerm id mask) answer h = absurd (true≢false h)
tells_none s client context (SetTimeout id seconds) answer h = absurd (true≢false h)
tells_none s client context (Link key ring) answer h = absurd (true≢false h)
tells_none s client context (Unlink key ring) answer h = absurd (true≢false h)
tells_none s client context (Move key from to flags) answer h = absurd (true≢false h)
tells_none s client context (Add type_name desc payload ring) answer h = absurd (true≢false h)
tells_none s client context (Search head type_name desc dest) answer h = grind (arith, common_steps)
tells_none s client context (Request type_name desc dest) answer h = grind (arith, common_steps)
tells_none s client context op answer h = refl
