-- From a talk's row to what it states.
use Rattle.std.proofs.Common.{◌≡◌, ℕ, List, Option, Some, None, option_map, Result, Ok, refl, sym, subst, ◌∙◌, ◌⊎◌, inl, inr, [], ◌∷◌, ◌≢◌, IfSome}
use Rattle.server_talk.specs.declared.session.fault.ServerFault.{ServerFault}
use Rattle.server_talk.specs.Fault.{Fault}
use Rattle.server_talk.specs.Talk.{Talk}
use Rattle.server_talk.specs.Reads.{Fails, IsOutside}
use Rattle.base_model.specs.declared.wal.Segment.{Segment}
use Rattle.base_model.specs.InfoFiles.{IsSegment}
use Rattle.base_model.specs.Names.{segment_text}
use Rattle.base_model.specs.Text.{Text}
use Rattle.repo_names.specs.Lsn.{IsLsn}
use Rattle.server_talk.specs.declared.session.known.Started.{Started}
use Rattle.server_talk.specs.Rows.{Refuses, by_talk, by_row, Rows, IsStartRow, IsStopRow, Stop}
use Rattle.server_talk.proofs.Reading.{outside_all}

read_is : {A B : Type 0} (read : A → Result B Fault) (s : A) (x : B) → ◌≡◌ {A = Option (Result B Fault)} (Some (read s)) (Some (Ok x)) → read s ≡ Ok x
read_is read s x h = cc

module _ {Y : Type 0} (Shows : Talk → Result Y Fault → Type 0) (old : Option (List ℕ)) (read : List ℕ → Result (Talk × List ℕ) Fault) where
  refuses_some : (e : ServerFault) (o : Option (List ℕ)) → IfSome (option_map read o) (Fails e) → IfSome o (λ s. Refuses e (read s) Shows)
  refuses_some e None h = tt
  refuses_some e (Some s) h = by_talk h

  -- the talk has a fault
  pub talk_refuses : (e : ServerFault) → IfSome (option_map read old) (Fails e) → IfSome old (λ s. Refuses e (read s) Shows)
  talk_refuses e h = refuses_some e old h

  -- the row has one
  pub row_refuses : (e : ServerFault) (t : Talk) (new : Option (List ℕ)) → option_map read old ≡ option_map (λ rest. Ok (t, rest)) new → (outcome : Result Y Fault) → Shows t outcome → Fails e outcome → IfSome old (λ s. Refuses e (read s) Shows)
  row_refuses e t new is outcome shows fails = refuses_at old new is where
    refuses_at : (o n : Option (List ℕ)) → option_map read o ≡ option_map (λ rest. Ok (t, rest)) n → IfSome o (λ s. Refuses e (read s) Shows)
    refuses_at None n h = tt
    refuses_at (Some s) None h = cc
    refuses_at (Some s) (Some r) h = by_row t r (read_is read s (t, r) h) outcome shows fails

  pub known_refuses : (e : ServerFault) (t : Talk) (new : Option (List ℕ)) → option_map read old ≡ option_map (λ rest. Ok (t, rest)) new → IsOutside e ⊎ ((outcome : Result Y Fault) × Shows t outcome × Fails e outcome) → IfSome old (λ s. Refuses e (read s) Shows)
  known_refuses e t new is (inl h) = talk_refuses e (outside_all e (option_map read old) h)
  known_refuses e t new is (inr (outcome, shows, fails)) = row_refuses e t new is outcome shows fails

  -- the row has an answer
  pub row_answers : (t : Talk) (new : Option (List ℕ)) → option_map read old ≡ option_map (λ rest. Ok (t, rest)) new → (outcome : Result Y Fault) → Shows t outcome → IfSome old (λ s. Rows (read s) t.taken new Shows outcome)
  row_answers t new is outcome shows = answers_at old new is where
    answers_at : (o n : Option (List ℕ)) → option_map read o ≡ option_map (λ rest. Ok (t, rest)) n → IfSome o (λ s. Rows (read s) t.taken n Shows outcome)
    answers_at None n h = tt
    answers_at (Some s) None h = cc
    answers_at (Some s) (Some r) h = record { talk = t; rest = r; is = cc; pending = refl; following = refl; shows = shows }

-- two texts that are no position and segment
abbrev pub NoPlace : Text → Text → Type 0
NoPlace a b = (at : ℕ) (s : Segment) → IsLsn a at → IsSegment s → b ≢ segment_text s

pub no_start : (t : Talk) (a b : Text) → t.row ≡ Some a ∷ Some b ∷ [] → NoPlace a b → (s : Started) → ¬ IsStartRow t s
no_start t a b is other s h =
    let e : Some a ∷ Some b ∷ [] ≡ Some h.lsn ∷ Some (segment_text s.segment) ∷ [] = sym is ∙ h.columns in
    let first : a ≡ h.lsn = cc in
    let second : b ≡ segment_text s.segment = cc in
    other s.lsn.0 s.segment (subst (λ (x : Text). IsLsn x s.lsn.0) (sym first) h.position) h.named second

pub no_stop : (t : Talk) (a b c : Text) (d : Option Text) → t.row ≡ Some a ∷ Some b ∷ Some c ∷ d ∷ [] → NoPlace a b → (s : Stop) → ¬ IsStopRow t s
no_stop t a b c d is other s h =
    let e : Some a ∷ Some b ∷ Some c ∷ d ∷ [] ≡ Some h.lsn ∷ Some (segment_text s.segment) ∷ Some s.label_file ∷ h.last ∷ [] = sym is ∙ h.columns in
    let first : a ≡ h.lsn = cc in
    let second : b ≡ segment_text s.segment = cc in
    other s.lsn s.segment (subst (λ (x : Text). IsLsn x s.lsn) (sym first) h.position) h.named second
