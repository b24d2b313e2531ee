-- A call that is posted, and a reply that is collected, keep the one history.
use Rattle.std.proofs.Common.{[], ◌++◌, ◌<◌, ◌∙◌, ◌∷◌, ◌≡◌, ap, arith, List, None, Option, refl, Result, set, subst}
use Rattle.std.proofs.Common.{sym, ℕ}
use lib.ListN.{get_elem?}
use mathlib.Core.{Logic.dite, Option.some}
use native.Mathlib.Decide.{ℕ_discrete}
use Rattle.krs_types.specs.declared.{ask.{Answer.Answer, Ask.Ask}, errno.Errno.Errno, event.Event.Event}
use Rattle.krs_model.specs.{History.event_of, Lists.Begins, State.State}
use Rattle.krs_world.specs.History.{Fits, OneHistory, Shared, Stands}
use Rattle.krs_world.specs.Knowing.{celled, collected, events_of, one, posted}
use Rattle.krs_world.specs.declared.view.Cell.{Cell, TheVariants.{Answered, Empty, Posted, Serving}}
use Rattle.krs_world.specs.declared.view.{Part.Part, Standing.TheVariants.One, View.View}
use Rattle.krs_world.proofs.Keeping.{own, seats_stay, views_open}
use Rattle.krs_world.proofs.Lanes.{celled_else, celled_here, each_set, empty_if_idle, held_set, idle_mine, others_stand}
use Rattle.krs_world.proofs.{Lanes.{holds_is, known_is, one_history, prefix_both, seen_set, shares}, Places.dealing_set}

-- an idle lane's seat writes its call into its empty cell; the history is as before
pub posts : {a : State} {views : List View} (id : ℕ) {p : Part} → get_elem? views id ≡ some (one a p)
    → {turn : ℕ} {home : Option State} {cell : ℕ → Cell} (o : OneHistory a turn home cell views)
    → (m : ℕ) (ask : Ask) → p.flight ≡ None
    → OneHistory a turn home (celled cell p.lane (Posted m ask)) (set views id (one a (posted p m ask)))
posts {a} {views} id {p} at {cell = cell} o m ask idle = let k = own id at o in
    let c : Cell = Posted m ask in let q : Part = posted p m ask in
    let s : Shared = shares o in
    let s' : Shared = record s { cell = celled cell p.lane c } in
    let empty : cell p.lane ≡ Empty = empty_if_idle p o.log (cell p.lane) idle k.fits in one_history record {
      witness = o.witness;
      store = o.store;
      words = o.words;
      cells = record {
        undealt = λ l le. let u = o.undealt l le in let g : p.lane < o.dealt = k.given in (
          celled_else cell p.lane l c (λ same. omega arith) ∙ u.0,
          u.1,
        );
        serves = λ l x y is. dite (ℕ_discrete l p.lane)
            (λ same. absurd (let no : Posted m ask ≡ Serving x y = sym (celled_here cell p.lane c)
            ∙ subst (λ (z : ℕ). celled cell p.lane c z ≡ Serving x y) same is in cc))
            (λ not. o.serves l x y (sym (celled_else cell p.lane l c not) ∙ is));
        served = λ v is. dite (ℕ_discrete v.lane p.lane)
            (λ same. absurd (let no : Empty ≡ Serving v.moment v.ask = sym empty
            ∙ subst (λ (z : ℕ). cell z ≡ Serving v.moment v.ask) same (o.served v is) in cc))
            (λ not. celled_else cell p.lane v.lane c not ∙ o.served v is);
      };
      seats = record {
        held = λ n. held_set o.log o.holder views id (one a p) (one a q) at (λ h. h) (o.held n);
        longest = λ n. seen_set o.log views id (one a p) (one a q) at (λ h. h) (o.longest n);
        opener = λ n. dealing_set o.dealt o.holder views id (one a p) (one a q) at (λ is. absurd cc) (o.opener n);
        seated = seats_stay id at o q refl;
        openings = views_open id at o (One q);
        each = each_set (λ j v. Stands s' j v.stands) views id (one a q)
            (known_is k.at k.given k.seen k.base k.calls (subst (Fits o.log q) (sym (celled_here cell p.lane c))
            (p.seen, refl, idle_mine p o.log (cell p.lane) idle k.fits, refl, k.seen))
            (λ l is. let h = k.holding l is in holds_is h.out h.here h.whole h.same_service) k.unheld)
            (λ j v not e. others_stand s s' j
            (λ r h. known_is h.at h.given h.seen h.base h.calls (subst (Fits o.log r) (sym (celled_else cell p.lane
            r.lane c (λ same. not (sym h.at ∙ (ap o.seat same ∙ k.at))))) h.fits)
            (λ l is. let u = h.holding l is in holds_is u.out u.here u.whole u.same_service) h.unheld)
            (λ two here. (two, here, refl)) v.stands (o.each j v e));
      };
    }

-- a lane's seat takes its reply out of its cell, and has seen a beginning of the history that has its event
pub collects : {a : State} {views : List View} (id : ℕ) {p : Part} → get_elem? views id ≡ some (one a p)
    → {turn : ℕ} {home : Option State} {cell : ℕ → Cell} (o : OneHistory a turn home cell views)
    → (m : ℕ) (ask : Ask) (r : Result Answer Errno) (l : List Event) → cell p.lane ≡ Answered m ask r
    → Begins p.seen l → Begins l o.log → Begins (p.mine ++ event_of p.lane m ask r ∷ []) (events_of p.lane l)
    → OneHistory a turn home (celled cell p.lane Empty) (set views id (one a (collected p l (event_of p.lane m ask r))))
collects {a} {views} id {p} at {cell = cell} o m ask r l is_answered more begins has =
    let k = own id at o in
    let e : Event = event_of p.lane m ask r in let q : Part = collected p l e in
    let s : Shared = shares o in
    let s' : Shared = record s { cell = celled cell p.lane Empty } in
    let fit : Fits o.log p (Answered m ask r) = subst (Fits o.log p) is_answered k.fits in one_history record {
      witness = o.witness;
      store = o.store;
      words = o.words;
      cells = record {
        undealt = λ j le. let u = o.undealt j le in let g : p.lane < o.dealt = k.given in (
          celled_else cell p.lane j Empty (λ same. omega arith) ∙ u.0,
          u.1,
        );
        serves = λ j x y is. dite (ℕ_discrete j p.lane)
            (λ same. absurd (let no : Empty ≡ Serving x y = sym (celled_here cell p.lane Empty)
            ∙ subst (λ (z : ℕ). celled cell p.lane Empty z ≡ Serving x y) same is in cc))
            (λ not. o.serves j x y (sym (celled_else cell p.lane j Empty not) ∙ is));
        served = λ v is. dite (ℕ_discrete v.lane p.lane)
            (λ same. absurd (let no : Answered m ask r ≡ Serving v.moment v.ask = sym is_answered
            ∙ subst (λ (z : ℕ). cell z ≡ Serving v.moment v.ask) same (o.served v is) in cc))
            (λ not. celled_else cell p.lane v.lane Empty not ∙ o.served v is);
      };
      seats = record {
        held = λ n. held_set o.log o.holder views id (one a p) (one a q) at (λ h. h) (o.held n);
        longest = λ n. seen_set o.log views id (one a p) (one a q) at
            (λ h. prefix_both l o.log begins (subst (λ (x : List Event). Begins x l) h more)) (o.longest n);
        opener = λ n. dealing_set o.dealt o.holder views id (one a p) (one a q) at (λ is. absurd cc) (o.opener n);
        seated = seats_stay id at o q refl;
        openings = views_open id at o (One q);
        each = each_set (λ j v. Stands s' j v.stands) views id (one a q) (known_is k.at k.given begins k.base has
            (subst (Fits o.log q) (sym (celled_here cell p.lane Empty)) (refl, fit.2, refl))
            (λ x is. let h = k.holding x is in holds_is h.out h.here h.whole h.same_service) k.unheld)
            (λ j v not at'. others_stand s s' j
            (λ w h. known_is h.at h.given h.seen h.base h.calls (subst (Fits o.log w) (sym (celled_else cell p.lane
            w.lane Empty (λ same. not (sym h.at ∙ (ap o.seat same ∙ k.at))))) h.fits)
            (λ x is. let u = h.holding x is in holds_is u.out u.here u.whole u.same_service) h.unheld)
            (λ two here. (two, here, refl)) v.stands (o.each j v at'));
      };
    }
