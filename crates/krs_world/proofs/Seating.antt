-- Dealing the seats, joining two and splitting them keeps the one history.
use Rattle.std.proofs.Common.{[], ◌++◌, ◌+◌, ◌<◌, ◌∙◌, ◌∷◌, ◌≡◌, ◌⊎◌, ap, arith, inl, inr, length, length-set, List}
use Rattle.std.proofs.Common.{None, Option, refl, set, Some, subst, suc, sym, zero, ℕ}
use lib.ListN.{get_elem?}
use mathlib.Core.Option.{some, some-injective, some-ne-none}
use Rattle.krs_model.specs.State.{State}
use Rattle.krs_model.proofs.History.Legal.{legal_none}
use Rattle.krs_world.specs.History.{Fits, OneHistory, Shared, Stands}
use Rattle.krs_world.specs.{Knowing.{events_of, fresh, one, view}, declared.view.Cell.Cell}
use Rattle.krs_world.specs.declared.view.{Cell.TheVariants.Empty, Standing.TheVariants.{Opening, Spent}, View.View}
use Rattle.krs_world.proofs.Keeping.{each_set, held_set, held_snoc, others_stand, seen_set, seen_snoc, set_at, shares}
use Rattle.krs_world.proofs.{Keeping.{holds_is, known_is, one_history, snoc_at, snoc_end}, Places.dealing_set}
use Rattle.krs_world.proofs.Places.{dealing_snoc, seated_else, seated_here, seated_set, seated_snoc, seats_again}
pub use Rattle.krs_world.proofs.Places.{seated}
use Rattle.krs_world.proofs.Joining.{each_snoc}
pub use Rattle.krs_world.proofs.Joining.{joins, looks, parts}

-- the opener deals one seat more
pub deals : {a : State} {turn : ℕ} {home : Option State} {cell : ℕ → Cell} {views : List View} (id : ℕ) {n : ℕ}
    → OneHistory a turn home cell views → get_elem? views id ≡ some (view a (Opening n))
    → OneHistory a turn home cell (set views id (view a (Opening (n + 1))) ++ one a (fresh n) ∷ [])
deals {a} {turn} {cell = cell} {views = views} id {n} o at = let k = o.each id (view a (Opening n)) at in
    let s : Shared = shares o in
    let s' : Shared = record s {
      witness = record o.witness { dealt = n + 1; seat = seated o.seat n (length views) };
    } in
    let quiet : o.log ≡ [] = o.young k.0 in let all : n ≡ o.dealt = k.2 in let two : turn ≡ 2 = k.0 in
    let N : ℕ = length views in let w : View = view a (Opening (n + 1)) in let len : length (set views id w) ≡ N =
    length-set views id w in
    let x : View = one a (fresh n) in let L : List View = set views id w in
    let empty : cell n ≡ Empty = (o.undealt n (omega arith)).0 in one_history record {
      witness = record o.witness { dealt = n + 1; seat = seated o.seat n N };
      store = o.store;
      words = o.words;
      cells = record {
        undealt = λ l le. o.undealt l (omega arith);
        serves = o.serves;
        served = o.served;
      };
      seats = record {
        held = λ h. absurd (omega arith);
        longest = λ _. inl quiet;
        opener = λ _. (
          w,
          snoc_at L o.holder x w (ap (get_elem? L) (sym k.1) ∙ set_at views id w (view a (Opening n)) at),
          refl,
        );
        seated = λ l lt. seats_again o.seat n N l (L ++ x ∷ [])
            (λ _. (x, ap (get_elem? (L ++ x ∷ [])) (sym len) ∙ snoc_end L x, refl))
            (λ not. seated_snoc l (o.seat l) L x (seated_set l (o.seat l) views id (view a (Opening n)) w at (λ t. t)
            (o.seated l (omega arith))));
        openings = each_snoc (λ j v. (v.stands ≡ Spent) ⊎ (v.opening ≡ a)) (set views id w) N (one a (fresh n)) len
            (inr refl)
            (each_set (λ j v. (v.stands ≡ Spent) ⊎ (v.opening ≡ a)) views id w (inr refl)
            (λ j v _ e. o.openings j v e));
        each = each_snoc (λ j v. Stands s' j v.stands) (set views id w) N (one a (fresh n)) len
            (known_is (seated_here o.seat n N) (omega arith) (o.log, refl) (o.log, refl) ([], refl)
            (subst (Fits o.log (fresh n)) (sym empty) (refl, ap (events_of n) quiet, refl)) (λ l e. absurd cc)
            (λ _. refl)) (each_set (λ j v. Stands s' j v.stands) views id w (k.0, k.1, refl)
            (λ j v not e. others_stand s s' j (λ q h. let g : q.lane < o.dealt = h.given in known_is
            (seated_else o.seat n N q.lane (λ e. omega arith) ∙ h.at) (omega arith) h.seen h.base h.calls h.fits
            (λ l is. let t = h.holding l is in holds_is t.out t.here t.whole t.same_service) h.unheld)
            (λ t is. absurd (not (is ∙ sym k.1))) v.stands (o.each j v e)));
      };
    }

-- all seats are dealt, and the turn is free
pub opens : {a : State} {turn : ℕ} {home : Option State} {cell : ℕ → Cell} {views : List View} (id : ℕ) {n : ℕ}
    → OneHistory a turn home cell views → get_elem? views id ≡ some (view a (Opening n))
    → OneHistory a 0 home cell (set views id (view a Spent))
opens {a} {turn} {views = views} id {n} o at = let k = o.each id (view a (Opening n)) at in let two : turn ≡ 2 = k.0 in
    let s : Shared = shares o in let s' : Shared = record s { turn = 0 } in
    let quiet : o.log ≡ [] = o.young two in one_history record {
      witness = o.witness;
      store = record {
        legal = o.legal;
        at_home = λ _. o.at_home (λ e. omega arith);
        away = λ e. absurd (omega arith);
      };
      words = record {
        word = omega arith;
        young = λ e. absurd (omega arith);
        unserved = λ _. o.unserved (λ e. omega arith);
      };
      cells = o.cells;
      seats = record {
        held = λ h. absurd (omega arith);
        longest = λ _. inl quiet;
        opener = λ e. absurd (omega arith);
        seated = λ l lt. seated_set l (o.seat l) views id (view a (Opening n)) (view a Spent) at (λ t. t)
            (o.seated l lt);
        openings = each_set (λ j v. (v.stands ≡ Spent) ⊎ (v.opening ≡ a)) views id (view a Spent) (inr refl)
            (λ j v _ e. o.openings j v e);
        each = each_set (λ j v. Stands s' j v.stands) views id (view a Spent) tt (λ j v not e. others_stand s s' j
            (λ q h. known_is h.at h.given h.seen h.base h.calls h.fits
            (λ l is. let t0 : turn ≡ 1 = (h.holding l is).out in absurd (omega arith)) h.unheld)
            (λ t is. absurd (not (is ∙ sym k.1))) v.stands (o.each j v e));
      };
    }

-- a view of no lane
pub spares : {a : State} {turn : ℕ} {home : Option State} {cell : ℕ → Cell} {views : List View} (id : ℕ) {v : View}
    → OneHistory a turn home cell views → get_elem? views id ≡ some v
    → OneHistory a turn home cell (set views id v ++ view a Spent ∷ [])
spares {a} {views = views} id {v} o at = one_history record {
  witness = o.witness;
  store = o.store;
  words = o.words;
  cells = o.cells;
  seats = record {
    held = λ h. held_snoc o.log o.holder (set views id v) (view a Spent) (held_set o.log o.holder views id v v at
        (λ t. t) (o.held h));
    longest = λ h. seen_snoc o.log (set views id v) (view a Spent) (seen_set o.log views id v v at
        (λ t. t) (o.longest h));
    opener = λ h. dealing_snoc o.dealt o.holder (set views id v) (view a Spent)
        (dealing_set o.dealt o.holder views id v v
        at (λ t. t) (o.opener h));
    seated = λ l lt. seated_snoc l (o.seat l) (set views id v) (view a Spent) (seated_set l (o.seat l) views id v v at
        (λ t. t) (o.seated l lt));
    openings = each_snoc (λ j w. (w.stands ≡ Spent) ⊎ (w.opening ≡ a)) (set views id v) (length views) (view a Spent)
        (length-set views id v) (inr refl)
        (each_set (λ j w. (w.stands ≡ Spent) ⊎ (w.opening ≡ a)) views id v (o.openings id v at)
        (λ j w _ e. o.openings j w e));
    each = each_snoc (λ j w. Stands (shares o) j w.stands) (set views id v)
        (length views) (view a Spent) (length-set views id v) tt
        (each_set (λ j w. Stands (shares o) j w.stands) views id v (o.each id v at) (λ j w _ e. o.each j w e));
  };
}

only_at : {A : Type 0} (a b : A) (j : ℕ) → get_elem? (a ∷ []) j ≡ some b → (j ≡ 0) × (a ≡ b)
only_at a b zero e = (refl, some-injective a b e)
only_at a b (suc j) e = absurd (some-ne-none b (sym e))

-- a desk that has just been made, with its opener
pub begins : (a : State) → OneHistory a 2 (Some a) (λ _. Empty) (view a (Opening 0) ∷ [])
begins a = one_history record {
  witness = record { log = []; last = a; holder = 0; dealt = 0; seat = λ _. 0; serving = None };
  store = record {
    legal = legal_none a;
    at_home = λ _. refl;
    away = λ n. absurd (omega arith);
  };
  words = record {
    word = omega arith;
    young = λ _. refl;
    unserved = λ _. refl;
  };
  cells = record {
    undealt = λ l _. (refl, refl);
    serves = λ l m ask is. absurd cc;
    served = λ s is. absurd cc;
  };
  seats = record {
    held = λ n. absurd (omega arith);
    longest = λ _. inl refl;
    opener = λ _. (view a (Opening 0), refl, refl);
    seated = λ l lt. absurd (omega arith);
    openings = λ j v e. inr (ap (λ (w : View). w.opening) (sym (only_at (view a (Opening 0)) v j e).1));
    each = λ j v e. subst (λ (x : ℕ × View). Stands
        record {
          witness = record { log = []; last = a; holder = 0; dealt = 0; seat = λ _. 0; serving = None };
          turn = 2;
          cell = λ _. Empty;
        } x.0 x.1.stands)
        (λ i. (sym (only_at (view a (Opening 0)) v j e).0 i, (only_at (view a (Opening 0)) v j e).1 i))
        (refl, refl, refl);
  };
}
