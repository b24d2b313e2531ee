-- What a session's events say.
use Rattle.std.specs.{Prelude.{◌≡◌, flat_map, List, map, Option, Result, zip, ℕ}, List.AllByRecursion}
use Rattle.krs_types.specs.declared.{ask.{Answer.Answer, Ask.Ask}, errno.Errno.Errno, event.Event.Event}
use Rattle.krs_wire.specs.{Reply.reply_frame, declared.framed.Framed.Framed}

abbrev pub asks_of : List Event → List Ask
asks_of events = map (λ e. e.ask) events

abbrev pub moments_of : List Event → List ℕ
moments_of events = map (λ e. e.moment) events

abbrev pub replies_of : List Event → List (Result Answer Errno)
replies_of events = map (λ e. e.reply) events

abbrev pub AllOfLane : ℕ → List Event → Type 0
AllOfLane lane events = AllByRecursion (λ e. e.lane ≡ lane) events

-- the asks of frames
abbrev pub asks_in : List Framed → List Ask
asks_in frames = map (λ f. f.ask) frames

-- their tags; a frame of version 1 has none
abbrev pub tags_in : List Framed → List (Option ℕ)
tags_in frames = map (λ f. f.tag) frames

-- what an ask's frame is answered with: the frame of its reply, in the ask's version and with its tag
abbrev pub reply_text : Framed → Result Answer Errno → List ℕ
reply_text framed reply = reply_frame framed.tag reply

-- what these frames are answered with, one after the other
abbrev pub session_text : List Framed → List (Result Answer Errno) → List ℕ
session_text frames replies = flat_map (λ p. reply_text p.0 p.1) (zip frames replies)
