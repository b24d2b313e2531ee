-- What a seat gains by the calls that lead to another.
use Rattle.std.proofs.Common.{[], ◌++◌, ◌∙◌, ◌∷◌, ◌≡◌, ap, append-nil, append_assoc, List, refl, subst, sym, ℕ}
use Rattle.std.proofs.lemmas.List.{map-append}
use Rattle.krs_types.specs.declared.{ask.Ask.Ask, event.Event.Event}
use Rattle.krs_model.specs.{History.IsLegal, Lists.Begins, State.State}
use Rattle.krs_world.specs.Knowing.{events_of}
use Rattle.krs_world.proofs.Keeping.{prefix_self, prefix_trans}
use Rattle.krs_desk.specs.Sitting.{Adds, Sitting}
use Rattle.krs_wire.specs.declared.framed.Framed.{Framed}
use Rattle.krs_session.specs.Events.{asks_in, asks_of}
use Rattle.krs_session.specs.{Calls.{Gains, GainsSession, GainsTheirCalls, MakesCalls, SeesUpTo}, Session.leave}

no_call : (s t : Sitting) (before after : List Event) (call : Event) → [] ≡ before ++ call ∷ after → SeesUpTo s call t
no_call s t [] after call is = absurd cc
no_call s t (x ∷ before) after call is = absurd cc

gains_none : (s : Sitting) (kept : ℕ) → Gains s [] (record s { kept = kept })
gains_none s kept = record {
  table = refl;
  opening = refl;
  lane = refl;
  mine = sym (append-nil s.part.mine);
  seen = prefix_self s.part.seen;
  each = no_call s (record s { kept = kept });
  own = λ made. absurd (made refl);
}

own_calls : (s t : Sitting) (call : Event) (calls : List Event) → MakesCalls s (call ∷ calls) t
    → events_of t.part.lane t.part.seen ≡ t.part.mine
own_calls s t call [] p = subst (λ (z : Sitting). events_of z.part.lane z.part.seen ≡ z.part.mine) p.2 p.1.own
own_calls s t call (next ∷ calls) p = own_calls p.0 t next calls p.2

-- what had been seen before a call begins what is seen after it
seen_before : (s u : Sitting) (call : Event) → Adds s call u → Begins s.part.seen u.part.seen
seen_before s u call a =
    prefix_trans s.part.seen a.upto u.part.seen
    (a.between ++ call ∷ [], sym (append_assoc s.part.seen a.between (call ∷ [])) ∙ sym a.ends) a.begins

-- up to the first call, and up to a later one
sees_first : (s u t : Sitting) (call : Event) → Adds s call u → Begins u.part.seen t.part.seen → SeesUpTo s call t
sees_first s u t call a seen = record {
  upto = a.upto;
  between = a.between;
  last = a.last;
  begins = prefix_trans a.upto u.part.seen t.part.seen a.begins seen;
  legal = a.legal;
  ends = a.ends;
}

sees_later : (s u t : Sitting) (first call : Event) → Adds s first u → SeesUpTo u call t → SeesUpTo s call t
sees_later s u t first call a sees =
    let before : Begins s.part.seen u.part.seen = seen_before s u first a in
    record {
      upto = sees.upto;
      between = before.0 ++ sees.between;
      last = sees.last;
      begins = sees.begins;
      legal = subst (λ (o : State). IsLegal o sees.upto sees.last) a.opening sees.legal;
      ends = sees.ends ∙ ap (λ (l : List Event). (l ++ sees.between) ++ call ∷ []) (sym before.1)
          ∙ ap (λ (l : List Event). l ++ call ∷ []) (append_assoc s.part.seen before.0 sees.between);
    }

sees_each : (s u t : Sitting) (first : Event) (calls : List Event) → Adds s first u → Gains u calls t
    → (before after : List Event) (call : Event) → first ∷ calls ≡ before ++ call ∷ after → SeesUpTo s call t
sees_each s u t first calls a gains [] after call is =
    let same : first ≡ call = cc in
    subst (λ (e : Event). SeesUpTo s e t) same (sees_first s u t first a gains.seen)
sees_each s u t first calls a gains (x ∷ before) after call is =
    sees_later s u t first call a (gains.each before after call cc)

pub gains_by : GainsTheirCalls
gains_by s t [] p =
    subst (λ (z : Sitting). Gains s [] z) (ap (λ (z : Sitting). record z { kept = t.kept }) p) (gains_none s t.kept)
gains_by s t (call ∷ calls) p =
    let u : Sitting = p.0 in
    let later : Gains u calls t = gains_by u t calls p.2 in
    record {
      table = later.table ∙ p.1.table;
      opening = later.opening ∙ p.1.opening;
      lane = later.lane ∙ p.1.lane;
      mine = later.mine ∙ ap (λ (l : List Event). l ++ calls) p.1.mine
          ∙ append_assoc s.part.mine (call ∷ []) calls;
      seen = prefix_trans s.part.seen u.part.seen t.part.seen (seen_before s u call p.1) later.seen;
      each = sees_each s u t call calls p.1 later;
      own = λ made. own_calls s t call calls p;
    }

pub gains_session : (s t : Sitting) (frames : List Framed) (events : List Event) (last : Event)
    → asks_of events ≡ asks_in frames → last.ask ≡ leave → MakesCalls s (events ++ last ∷ []) t
    → GainsSession s frames (events ++ last ∷ []) t
gains_session s t frames events last order is_leave led =
    let gains : Gains s (events ++ last ∷ []) t = gains_by s t (events ++ last ∷ []) led in
    record {
      asks = map-append (λ (e : Event). e.ask) events (last ∷ [])
          ∙ ap (λ (l : List Ask). l ++ last.ask ∷ []) order
          ∙ ap (λ (a : Ask). asks_in frames ++ a ∷ []) is_leave;
      mine = gains.mine;
      gains = gains;
    }
