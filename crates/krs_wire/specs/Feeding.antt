-- What a feed answers to a piece of the stream, whatever came before it.
use Rattle.std.specs.Prelude.{[], ◌++◌, ◌≡◌, ◌≢◌, List, None, Option, Some, ℕ}
use Rattle.krs_wire.specs.Frame.{bad, End, Frames, rest}
use Rattle.krs_wire.specs.declared.{fault.WireFault.{WireFault, TheVariants.Memory}, framed.Framed.Framed}

abbrev pub end_of : Option WireFault → List ℕ → End
end_of None left = rest left
end_of (Some fault) left = bad fault

-- the fault of a feed that has failed
abbrev pub fault_of : End → Option WireFault
fault_of (rest left) = None
fault_of (bad fault) = Some fault

-- for every stream that ended so, with this piece behind it: these are its new frames, and its new end
abbrev pub Feeds : End → List ℕ → List Framed → End → Type 0
Feeds (rest left) piece frames new =
    (before : List ℕ) (earlier : List Framed) → Frames before earlier (rest left)
    → Frames (before ++ piece) (earlier ++ frames) new
Feeds (bad old) piece frames new = ⊥

-- the stream goes on from what came before in some way
abbrev pub GoesOn : End → List ℕ → Type 0
GoesOn (rest left) piece =
    (before : List ℕ) (earlier : List Framed) → Frames before earlier (rest left) →
    (frames : List Framed) × (end : End) × Frames (before ++ piece) (earlier ++ frames) end
GoesOn (bad old) piece = ⊥

-- a piece that is refused completes no frame before its fault; one that is refused for memory is not taken; a feed
-- that has failed answers its fault
abbrev pub Refuses : End → List ℕ → WireFault → Type 0
Refuses (bad old) piece fault = fault ≡ old
Refuses (rest left) piece fault = (fault ≢ Memory → Feeds (rest left) piece [] (bad fault)) × GoesOn (rest left) piece
