use Rattle.std.proofs.Common.{◌++◌, ◌+◌, ◌-◌, ◌∙◌, ◌≡◌, ◌≤◌, ap, append-nil, arith, drop, leb, leb-true, length}
use Rattle.std.proofs.Common.{length-append, List, refl, sym, true, true≢false, vec_len, ℕ}
use Rattle.krs_types.specs.declared.note.Record.{Record}
use Rattle.krs_model.specs.Notes.{Bytes.{bytes_of, bytes_of_all}, Front.{behind, front}}
use Rattle.krs_model.proofs.Notes.Fronts.{front_size}
use Rattle.krs_ring.specs.Ring.{Ring}
use Rattle.krs_watch.proofs.FrontLemmas.{bytes_go_on, first_within, front_less, one_taken, rest_goes_on, size_goes_on}
use Rattle.krs_watch.proofs.FrontLemmas.{Stops, stops_empty, stops_full, Taken}
use Rattle.krs_watch.proofs.queue.take_front.Goals.{in-Some+then-not-fits, in_default}
use Rattle.krs_watch.proofs.queue.take_front.Goals as goal

pub taking-init : goal.taking-init
taking-init c =
    let room = c.args.room in
    let waiting = c.args.ring.now.waiting in
    let b = c.in_ok-bytes.bytes in
    let none : vec_len b ≡ 0 = c.in_ok-bytes.ensures.len in
    let left : room - vec_len b ≡ room = omega arith in
    let most : length (bytes_of_all waiting) ≤ c.byte_bound.result = c.byte_bound.ensures.fits in
    let bound : c.byte_bound.result ≤ 98312 = c.byte_bound.ensures.bound in
    record {
      bytes = ap (λ (xs : List ℕ). xs ++ bytes_of_all (front (room - vec_len b) waiting)) c.in_ok-bytes.ensures.items
          ∙ ap (λ (n : ℕ). bytes_of_all (front n waiting)) left;
      rest = ap (λ (n : ℕ). behind n waiting) left;
      same = refl;
      within = omega arith;
      grown = rw left (let size = front_size room waiting in let less = front_less room waiting in
          let exact = c.in_ok-bytes.ensures.exact in let least = c.min-most.ensures in omega arith);
      bound = rw left (let less = front_less room waiting in omega arith);
    }

pub taking-preserved : goal.taking-preserved
taking-preserved c =
    let bytes = c.taking.bytes in
    let after = c.append.new.bytes in
    let rs = c.taking.ring.waiting in
    let r = c.in-Some.note in
    let left = c.args.room - vec_len bytes in
    let next = c.args.room - vec_len after in
    let fit : leb (length (bytes_of r)) left ≡ true = rw (← c.len.ensures) (sym c.if-not-fits.ensures) in
    let fits = leb-true _ _ fit in
    let taken : Taken left rs r = one_taken left rs r c.in-Some.ensures fit in
    let more = c.in_ok-append.ensures.items in
    let had = bytes.ok.0 in
    let has = after.ok.0 in
    let added : length after.items ≡ length bytes.items + length (bytes_of r) =
    ap length more ∙ length-append bytes.items (bytes_of r) in
    let longer : vec_len after ≡ vec_len bytes + length (bytes_of r) = omega (arith, had, has, added) in
    let less : next ≡ left - length (bytes_of r) = omega (arith, longer) in
    let behind_first : c.take.new.self.waiting ≡ drop 1 rs = ap (λ (t : Ring). t.waiting) c.take.ensures.rest in
    let size = size_goes_on left next rs c.take.new.self.waiting r bytes.items after.items taken
    less behind_first more in
    let grown = c.taking.invariant.grown in
    let bound = c.taking.invariant.bound in
    let within = c.taking.invariant.within in
    let capacity = c.in_ok-append.ensures.capacity in
    record {
      bytes = bytes_go_on left next rs c.take.new.self.waiting r bytes.items after.items _ taken less behind_first more
          c.taking.invariant.bytes;
      rest = rest_goes_on left next rs c.take.new.self.waiting r taken less behind_first ∙ c.taking.invariant.rest;
      same = ap (λ (t : Ring). t.capacity) c.take.ensures.rest ∙ c.taking.invariant.same;
      within = omega (arith, longer, fits, within);
      grown = omega (arith, had, has, size, grown, capacity);
      bound = omega (arith, had, has, size, bound);
    }

pub returns-in_err-append-clause-same : goal.returns-in_err-append-clause-same
returns-in_err-append-clause-same c =
    let fit : leb (length (bytes_of c.in-Some.note)) (c.args.room - vec_len c.taking.bytes) ≡ true =
    rw (← c.len.ensures) (sym c.if-not-fits.ensures) in
    let first =
    first_within (c.args.room - vec_len c.taking.bytes) c.taking.ring.waiting c.in-Some.note
    c.in-Some.ensures fit in
    let grown = c.taking.invariant.grown in
    absurd (true≢false (sym (c.in_err-append.ensures.succeeds (omega arith))))

pub returns-clause-bytes : goal.returns-clause-bytes
returns-clause-bytes c =
    let left = c.args.room - vec_len c.taking.bytes in
    let stops : Stops left c.taking.ring.waiting = elim c.match-first.branch [
      | in-Some+then-not-fits w ↦ stops_full left c.taking.ring.waiting w.in-Some.note w.in-Some.ensures
          (rw (← w.len.ensures) (sym w.if-not-fits.ensures))
      | in_default w ↦ stops_empty left c.taking.ring.waiting (sym w.in_default.is ∙ c.first.ensures)
    ] in
    sym (append-nil c.taking.bytes.items) ∙ (ap (λ (rs : List Record). c.taking.bytes.items ++ bytes_of_all rs)
    (sym stops.nothing) ∙ c.taking.invariant.bytes)

pub returns-clause-bound : goal.returns-clause-bound
returns-clause-bound c = let bound = c.taking.invariant.bound in omega arith

pub returns-clause-rest : goal.returns-clause-rest
returns-clause-rest c =
    let left = c.args.room - vec_len c.taking.bytes in
    let stops : Stops left c.taking.ring.waiting = elim c.match-first.branch [
      | in-Some+then-not-fits w ↦ stops_full left c.taking.ring.waiting w.in-Some.note w.in-Some.ensures
          (rw (← w.len.ensures) (sym w.if-not-fits.ensures))
      | in_default w ↦ stops_empty left c.taking.ring.waiting (sym w.in_default.is ∙ c.first.ensures)
    ] in
    let rest : c.taking.ring.waiting ≡ behind c.args.room c.args.ring.now.waiting =
    sym stops.all ∙ c.taking.invariant.rest in
    let ring : ℕ → List Record → Ring = λ n rs. record { capacity = n; waiting = rs } in
    ap (λ (n : ℕ). ring n c.taking.ring.waiting) c.taking.invariant.same
    ∙ ap (λ (rs : List Record). ring c.args.ring.now.capacity rs) rest
