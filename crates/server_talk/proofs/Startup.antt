-- The parameters of a session: how long they are, and that they are one after the other.
use Rattle.std.proofs.Common.{◌≡◌, ◌+◌, [], ◌∷◌, ◌++◌, length, arith, refl, ap, ◌∙◌, length-append}
use Rattle.std.specs.Prelude.{codes}
use Rattle.base_model.specs.Text.{Text}
use Rattle.server_talk.specs.Sends.{parameter, parameters}

parameter_length : (name value : Text) → length (parameter name value) ≡ length name + length value + 2
unfolding parameter
parameter_length name value = omega (arith, length-append name (0 ∷ (value ++ 0 ∷ [])), length-append value (0 ∷ []))

after_length : (prefix name value : Text) → length (prefix ++ parameter name value) ≡ length prefix + length name + length value + 2
after_length prefix name value = omega (arith, length-append prefix (parameter name value), parameter_length name value)

-- one after the other
pub joined : (user database : Text) (b0 b1 b2 b3 b4 b5 all : Text) → b0 ≡ [] → b1 ≡ b0 ++ parameter (codes "user") user → b2 ≡ b1 ++ parameter (codes "database") database → b3 ≡ b2 ++ parameter (codes "application_name") (codes "pgbackrest") → b4 ≡ b3 ++ parameter (codes "statement_timeout") (codes "0") → b5 ≡ b4 ++ parameter (codes "idle_session_timeout") (codes "0") → all ≡ b5 ++ 0 ∷ [] → all ≡ parameters user database
unfolding parameters
joined user database b0 b1 b2 b3 b4 b5 all e0 e1 e2 e3 e4 e5 e6 =
    let f1 = e1 ∙ ap (λ (l : Text). l ++ parameter (codes "user") user) e0 in
    let f2 = e2 ∙ ap (λ (l : Text). l ++ parameter (codes "database") database) f1 in
    let f3 = e3 ∙ ap (λ (l : Text). l ++ parameter (codes "application_name") (codes "pgbackrest")) f2 in
    let f4 = e4 ∙ ap (λ (l : Text). l ++ parameter (codes "statement_timeout") (codes "0")) f3 in
    let f5 = e5 ∙ ap (λ (l : Text). l ++ parameter (codes "idle_session_timeout") (codes "0")) f4 in
    e6 ∙ ap (λ (l : Text). l ++ 0 ∷ []) f5

pub parameters_length : (user database : Text) → length (parameters user database) ≡ length user + length database + 88
parameters_length user database =
    let b1 = parameter (codes "user") user in
    let b2 = b1 ++ parameter (codes "database") database in
    let b3 = b2 ++ parameter (codes "application_name") (codes "pgbackrest") in
    let b4 = b3 ++ parameter (codes "statement_timeout") (codes "0") in
    let b5 = b4 ++ parameter (codes "idle_session_timeout") (codes "0") in
    let whole = joined user database [] b1 b2 b3 b4 b5 (b5 ++ 0 ∷ []) refl refl refl refl refl refl refl in
    let names : length (codes "user") + length (codes "database") + length (codes "application_name") + length (codes "statement_timeout") + length (codes "idle_session_timeout") ≡ 65 = refl in
    let values : length (codes "pgbackrest") + length (codes "0") ≡ 11 = refl in
    let zero : length (codes "0") ≡ 1 = refl in
    omega (arith, ap length whole, length-append b5 (0 ∷ []), after_length b4 (codes "idle_session_timeout") (codes "0"), after_length b3 (codes "statement_timeout") (codes "0"), after_length b2 (codes "application_name") (codes "pgbackrest"), after_length b1 (codes "database") database, parameter_length (codes "user") user, names, values, zero)
