use Rattle.std.proofs.Common.{[], ◌++◌, ◌∙◌, ◌≡◌, ap, Bool, cond, List, option_to_list, Result, sym, w32, ℕ}
use Rattle.std.proofs.lemmas.Int.{to_z-of_z}
use Rattle.krs_types.specs.declared.{errno.Errno.Errno, note.KeyEvent.TheVariants.{Linked, Unlinked}}
use Rattle.krs_model.specs.Notes.{Posting.Note, Telling.{about_link, about_moved, named}}
use Rattle.krs_store.specs.Telling.{told_of}
use Rattle.krs_store.proofs.Noting.{same_named}
use Rattle.krs_store.proofs.telling.about_moved.Goals as goal

pub returns : goal.returns
returns c = λ answer.
    let s = c.args.tables.now in
    let stands_for = named s c.args.client c.args.number in
    let from = c.named-from.result in
    let into = c.named-to.result in
    let key = c.named-key.result in
    let from_is : from ≡ stands_for c.args.from =
    same_named from _ c.named-from.ensures ∙ ap stands_for (to_z-of_z w32 c.args.from c.ranges.from) in
    let into_is : into ≡ stands_for c.args.to =
    same_named into _ c.named-to.ensures ∙ ap stands_for (to_z-of_z w32 c.args.to c.ranges.to) in
    let key_is : key ≡ stands_for c.args.key =
    same_named key _ c.named-key.ensures ∙ ap stands_for (to_z-of_z w32 c.args.key c.ranges.key) in
    let both : List Note = about_link Unlinked from key ++ about_link Linked into key in
    let second = option_to_list (told_of c.link_telling-2.result answer) in
    let told = ap (λ (notes : List Note). notes ++ second) (c.link_telling.ensures answer)
    ∙ ap (λ (notes : List Note). about_link Unlinked from key ++ notes) (c.link_telling-2.ensures answer) in
    let apart : about_moved from into key ≡ both =
    ap (λ (one : Bool). cond one [] both) (sym c.is_one_ring.ensures ∙ c.if-is_one_ring.false) in
    told ∙ (sym apart
    ∙ (ap (λ (r : Result ℕ Errno). about_moved r into key) from_is
    ∙ (ap (λ (r : Result ℕ Errno). about_moved (stands_for c.args.from) r key) into_is
    ∙ ap (λ (r : Result ℕ Errno). about_moved (stands_for c.args.from) (stands_for c.args.to) r) key_is)))
