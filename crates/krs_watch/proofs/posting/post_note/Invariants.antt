use Rattle.std.proofs.Common.{◌≡◌, map}
use Rattle.krs_model.specs.Notes.Posting.{note_for, watches_at}
use Rattle.krs_watch.specs.Offers.{offer_all}
use Rattle.krs_watch.proofs.posting.post_note.Given as goal

abbrev pub invariant-loop-place : goal.invariant-loop-place
invariant-loop-place l =
    offer_all (map (note_for (record { event = l.event; key = l.key; aux = l.aux }))
    (watches_at l.key l.place-iterator)) l.queues.entries
    ≡ offer_all (map (note_for (record { event = l.event; key = l.key; aux = l.aux }))
    (watches_at l.key l.watches.entries)) l.fn.queues.entries
