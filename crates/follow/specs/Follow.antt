-- The same as the text comes in, in pieces: the follower keeps the line that has not ended yet.
use Rattle.std.specs.Prelude.{ℕ, ◌+◌, Bool, cond, ◌&&◌, List, [], ◌∷◌, ◌++◌, ltb, leb, eqb, length, replicate, set, take, Err, Ok}
use Rattle.refusal.specs.Answer.{Answer}
use Rattle.refusal.specs.declared.Refusal.TheVariants.{State}
use Rattle.capture.specs.Words.{before}
use Rattle.printed.specs.Printed.{LF}
use Rattle.runs.specs.Runs.{event_at, start_runs, valid_runs, told_at, told_at_leaves}
use Rattle.runs.specs.declared.Addressed.{Addressed}
use Rattle.runs.specs.declared.Runs.{Runs}
use Rattle.runs.specs.declared.ToldAt.{ToldAt}
use Rattle.follow.specs.declared.Text.{Text}
use Rattle.follow.specs.declared.Follower.{Follower}
use Rattle.follow.specs.declared.Begun.{Begun}
use Rattle.follow.specs.declared.Followed.{Followed}

-- ---- a line that has not ended

-- one more than a line of an event has at most: a longer one is known by its first bytes
abbrev pub held_length : ℕ
held_length = 138

abbrev pub blank_text : Text
blank_text = record { bytes = replicate held_length 0; len = 0 }

abbrev pub valid_text : Text → Bool
valid_text t = leb t.len held_length

-- its bytes, as far as they are kept
abbrev pub held_in : Text → List ℕ
held_in t = take t.len t.bytes

-- a byte joins, where it is kept
unfoldable pub joins : Text → ℕ → Text
joins t b = cond (ltb t.len held_length) (record { bytes = set t.bytes t.len b; len = t.len + 1 }) t

unfoldable pub joined_text : Text → List ℕ → Text
joined_text t [] = t
joined_text t (b ∷ s) = joined_text (joins t b) s

-- ---- a call

abbrev pub begins_with : ℕ → Bool → Begun
begins_with letter ports = record {
  verdict = (start_runs letter).verdict;
  follower = record { runs = (start_runs letter).runs; text = blank_text; ports = ports };
}

-- 16 covers the runs and the count of the line
abbrev pub valid_follower : Follower → Bool
valid_follower f = valid_runs f.runs && valid_text f.text

-- once a line was told: no line yet; where that was refused, as it was
abbrev pub followed_as : Follower → Runs → ℕ → Answer ℕ → Followed
followed_as f runs used (Ok n) = record { wrote = Ok n; used = used; follower = record { runs = runs; text = blank_text; ports = f.ports } }
followed_as f runs used (Err r) = record { wrote = Err r; used = 0; follower = f }

abbrev pub followed_by : Follower → ToldAt → ℕ → Followed
followed_by f told used = followed_as f told.runs used told.wrote

abbrev pub refused_state : Follower → Followed
refused_state f = record { wrote = Err State; used = 0; follower = f }

-- a piece in which no line ends
abbrev pub hold_of : Follower → List ℕ → Followed
hold_of f piece = record {
  wrote = Ok 0;
  used = length piece;
  follower = record { runs = f.runs; text = joined_text f.text piece; ports = f.ports };
}

-- the line that ends with this part, and what it tells
abbrev pub line_in : Follower → List ℕ → List ℕ
line_in f part = held_in f.text ++ part

abbrev pub event_in : Follower → List ℕ → Addressed
event_in f part = event_at f.ports (line_in f part)

-- and what the line that has not ended tells
abbrev pub event_held : Follower → Addressed
event_held f = event_at f.ports (held_in f.text)

-- the piece up to the first end of a line, or all of it
unfoldable pub take_of : Follower → List ℕ → List ℕ → Followed
take_of f piece out =
    let end = before LF piece in
    cond (valid_follower f)
    (cond (eqb end (length piece)) (hold_of f piece) (followed_by f (told_at f.runs (event_in f (take end piece)) out) (end + 1)))
    (refused_state f)

unfoldable pub take_leaves : Follower → List ℕ → List ℕ → List ℕ
take_leaves f piece out =
    let end = before LF piece in
    cond (valid_follower f)
    (cond (eqb end (length piece)) out (told_at_leaves f.runs (event_in f (take end piece)) out))
    out

-- the text has ended: a last line without its LF is told too
unfoldable pub close_of : Follower → List ℕ → Followed
close_of f out =
    cond (valid_follower f)
    (cond (eqb f.text.len 0)
    (record { wrote = Ok 0; used = 0; follower = f })
    (followed_by f (told_at f.runs (event_held f) out) 0))
    (refused_state f)

unfoldable pub close_leaves : Follower → List ℕ → List ℕ
close_leaves f out =
    cond (valid_follower f) (cond (eqb f.text.len 0) out (told_at_leaves f.runs (event_held f) out)) out
