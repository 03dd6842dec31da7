-- What a client sends (PostgreSQL manual, "Message Formats").
use Rattle.std.specs.Prelude.{◌≡◌, ℕ, ◌+◌, List, [], ◌∷◌, ◌++◌, codes, length, Option, IfSome}
use Rattle.std.specs.Int.{w32, to_be_bytes}
use Rattle.base_model.specs.Text.{Text}

-- a parameter: its name and its value, each with a 0 after it
unfoldable pub parameter : Text → Text → Text
parameter name value = name ++ 0 ∷ (value ++ 0 ∷ [])

-- the parameters of a session and a last 0; by these two settings the server ends neither a backup's long start nor a
-- session that is idle meanwhile
unfoldable pub parameters : Text → Text → Text
parameters user database = parameter (codes "user") user ++ parameter (codes "database") database
    ++ parameter (codes "application_name") (codes "pgbackrest") ++ parameter (codes "statement_timeout") (codes "0")
    ++ parameter (codes "idle_session_timeout") (codes "0") ++ 0 ∷ []

-- protocol 3.0, then the parameters
abbrev pub startup_body : Text → Text → List ℕ
startup_body user database = to_be_bytes w32 196608 ++ parameters user database

-- the first message has no kind
unfoldable pub startup_of : Text → Text → List ℕ
startup_of user database = to_be_bytes w32 (length (startup_body user database) + 4) ++ startup_body user database

-- Q: a text that ends with 0
unfoldable pub query_of : Text → List ℕ
query_of text = 81 ∷ (to_be_bytes w32 (length text + 5) ++ (text ++ 0 ∷ []))

-- X
abbrev pub closing : List ℕ
closing = 88 ∷ 0 ∷ 0 ∷ 0 ∷ 4 ∷ []

-- the last that was sent is the end, where that is known
abbrev pub Ended : Option (List ℕ) → Type 0
Ended sent = IfSome sent (λ bytes. (prefix : List ℕ) × (bytes ≡ prefix ++ closing))
