use Rattle.std.proofs.Common.{[], ◌<◌, ◌∙◌, ◌∷◌, ◌≡◌, ap, arith, filter, length, List, map, refl, slice_get, Some}
use Rattle.std.proofs.Common.{subst, sym, ℕ}
use Rattle.std.specs.{List.Sorted.IsStrictlySortedBy, Map.keys_of}
use Rattle.krs_types.specs.declared.note.Record.TheVariants.{Removal}
use Rattle.krs_model.specs.{Notes.Posting.{after_note, post_all, removal_for}, Queues.{place_cmp, Watch}, Table.alter}
use Rattle.krs_hold.specs.Told.{tells}
use Rattle.krs_watch.specs.Watched.{AreDue, gone_watches}
use Rattle.krs_watch.proofs.GoneLemmas.{due_after, first_stays, none_gone, taken}
use Rattle.krs_watch.proofs.queues.end_dropped.Goals as goal

pub ending-init : goal.ending-init
ending-init g c = record {
  posts = refl;
  stay = refl;
  due = c.requires;
}

pub ending-smaller : goal.ending-smaller
ending-smaller g c =
    let has = g.K.KeySet.has c.args.keys.now in
    let ws = c.ending.watches in
    let w : Watch = (c.in-Some.place, c.in-Some.watch) in
    let first : slice_get (gone_watches has ws) 0 ≡ Some w =
    ap (λ (vs : List Watch). slice_get (gone_watches has vs) 0) (sym c.all.ensures) ∙ c.in-Some.ensures.first in
    let more : gone_watches has ws ≡ w ∷ gone_watches has c.remove.new.self =
    taken has ws w first ∙ ap (λ (vs : List Watch). w ∷ gone_watches has vs) (sym c.remove.ensures.watches) in
    let fewer : length (gone_watches has c.remove.new.self) < length (gone_watches has ws) =
    omega (arith, ap length more) in
    fewer

pub ending-preserved : goal.ending-preserved
ending-preserved g c =
    let has = g.K.KeySet.has c.args.keys.now in
    let ws = c.ending.watches in
    let queues = c.ending.queues.entries in
    let number = c.in-Some.place.1 in
    let told = tells c.args.told.now in
    let w : Watch = (c.in-Some.place, c.in-Some.watch) in
    let first : slice_get (gone_watches has ws) 0 ≡ Some w =
    ap (λ (vs : List Watch). slice_get (gone_watches has vs) 0) (sym c.all.ensures) ∙ c.in-Some.ensures.first in
    let more : gone_watches has ws ≡ w ∷ gone_watches has c.remove.new.self =
    taken has ws w first ∙ ap (λ (vs : List Watch). w ∷ gone_watches has vs) (sym c.remove.ensures.watches) in
    record {
      posts = ap (post_all (map removal_for (gone_watches has c.remove.new.self))) (c.post.ensures
          ∙ ap (λ (n : ℕ). alter queues number (after_note (Removal c.in-Some.watch n))) c.from-id.ensures)
          ∙ (ap (λ (vs : List Watch). post_all (map removal_for vs) queues) (sym more) ∙ c.ending.invariant.posts);
      stay = ap (filter (λ v. has v.0.0)) c.remove.ensures.watches
          ∙ (first_stays has ws w first ∙ c.ending.invariant.stay);
      due = subst (λ (vs : List Watch). AreDue has told c.in-Some.place.0 vs) (sym c.remove.ensures.watches)
          (due_after has told c.ending.from ws w (subst (λ (vs : List Watch). IsStrictlySortedBy place_cmp (keys_of vs))
          c.all.ensures c.in-Some.ensures.rises) c.ending.invariant.due first);
    }

pub returns-clause-watches : goal.returns-clause-watches
returns-clause-watches g c =
    let has = g.K.KeySet.has c.args.keys.now in
    let nothing : gone_watches has c.ending.watches ≡ [] =
    ap (gone_watches has) (sym c.all.ensures) ∙ c.in_default.ensures.none in
    sym (none_gone has c.ending.watches nothing) ∙ c.ending.invariant.stay
