-- An account that continues by one step of others.
use Rattle.std.proofs.Common.{◌≡◌, ℕ, List, [], ◌∷◌, ◌++◌, map, take, Option, Some, refl, ap, ◌∙◌, sym, subst, append_assoc}
use Rattle.std.proofs.lemmas.List.{append_cancel_left}
use Rattle.base_model.specs.Text.{Text}
use Rattle.archive_lookup.specs.Turns.{Turned, Account, GoesOnBy, OnTurn}
use Rattle.memory_processes.specs.declared.turn.OtherTurn.{OtherTurn}
use Rattle.memory_processes.specs.Others.{idle_turn, idle_turns, turned_by, account_of}

-- what holds of the step of others that it continued by holds of any by which it did
pub on_turn : (stanza : Text) (t : Turned) (old new : Option Account) → GoesOnBy t stanza old new → (P : Text → Turned → Type 0) → P stanza t → OnTurn old new P
on_turn stanza t old new goes P h known t' next =
    let a : ◌≡◌ {A = Option Account} (Some (record { stanza = stanza; turns = goes.before })) (Some (record { stanza = known; turns = next.before })) = sym goes.was ∙ next.was in
    let account : ◌≡◌ {A = Account} (record { stanza = stanza; turns = goes.before }) (record { stanza = known; turns = next.before }) = cc in
    let same : stanza ≡ known = ap (λ (x : Account). x.stanza) account in
    let before : goes.before ≡ next.before = ap (λ (x : Account). x.turns) account in
    let b : ◌≡◌ {A = Option Account} (Some (record { stanza = stanza; turns = goes.before ++ t ∷ [] })) (Some (record { stanza = known; turns = next.before ++ t' ∷ [] })) = sym goes.is ∙ next.is in
    let more : ◌≡◌ {A = Account} (record { stanza = stanza; turns = goes.before ++ t ∷ [] }) (record { stanza = known; turns = next.before ++ t' ∷ [] }) = cc in
    let turns : goes.before ++ t ∷ [] ≡ goes.before ++ t' ∷ [] = ap (λ (x : Account). x.turns) more ∙ ap (λ (l : List Turned). l ++ t' ∷ []) (sym before) in
    let last : t ∷ [] ≡ t' ∷ [] = append_cancel_left goes.before (t ∷ []) (t' ∷ []) turns in
    let turn : t ≡ t' = cc in
    subst (λ (x : Turned). P known x) turn (subst (λ (x : Text). P x t) same h)

module _ (stanza : Text) (list : List OtherTurn) (at : ℕ) where
  abbrev taken : List Turned
  taken = map (turned_by stanza) (take at list)

  abbrev account : List Turned → Option Account
  account turns = Some (record { stanza = stanza; turns = turns })

  -- by one after it
  pub goes_after : (following more : List ℕ) → more ≡ 0 ∷ following → GoesOnBy idle_turn stanza (Some (account_of stanza list at following)) (Some (account_of stanza list at more))
  goes_after following more one = record {
    before = taken ++ idle_turns following;
    was = refl;
    is = ap (λ (ns : List ℕ). account (taken ++ idle_turns ns)) one ∙ ap account (sym (append_assoc taken (idle_turns following) (idle_turn ∷ [])));
  }
