-- A record that comes to a queue's filter.
use Rattle.std.specs.Prelude.{[], ◌∷◌, if◌then◌else◌, List}
use Rattle.krs_types.specs.declared.note.Record.{Record}
use Rattle.krs_model.specs.{Notes.{Filter.passes_if_any, Posting.{after_note, Post}}, State.Queue, Table.{alter, Table}}

-- the queue once a record came to its filter
abbrev pub offered : Record → Queue → Queue
offered note queue = if passes_if_any queue.filter note then after_note note queue else queue

-- the queues once these came, one after the other
abbrev pub offer_all : List Post → Table Queue → Table Queue
offer_all [] queues = queues
offer_all (p ∷ ps) queues = offer_all ps (alter queues p.0 (offered p.1))
