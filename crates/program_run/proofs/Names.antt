-- The names of a session are short, and the folders.
use Rattle.std.proofs.Common.{◌≡◌, ◌≤◌, ◌<◌, ◌+◌, ◌^◌, ap, Bool, true, false, [], length, Option, Some, None, refl, arith}
use Rattle.std.specs.Prelude.{option_and_then}
use Rattle.std.proofs.lemmas.Grind.{common_steps}
use Rattle.base_model.specs.Text.{Text}
use Rattle.options_table.specs.declared.table.Opt.TheVariants.{Pg1Path, Pg1User, Pg1Database, Repo1Path}
use Rattle.options_read.specs.Filled.{text_in, or_else}
use Rattle.options_read.specs.Settings.{Source, in_force, value}
use Rattle.options_table.specs.Table.{row}
use Rattle.options_table.specs.Table as table
use Rattle.options_table.specs.Values.{is_text, text_where, value_of}
use Rattle.cmd_trait.specs.InForce.{path_in}

within : (t : Text) (b : Bool) → is_text t ≡ b → length (or_else [] (text_in (text_where b t))) ≤ 1024
within t true is = grind (arith, common_steps)
within t false is = omega arith

short : (o : Option Text) → length (or_else [] (text_in (option_and_then (value_of table.text) o))) ≤ 1024
short None = omega arith
short (Some t) = within t (is_text t) refl

user_short : (s : Source) → length (path_in s Pg1User) ≤ 1024
unfolding value row
user_short s = short (in_force s Pg1User)

database_short : (s : Source) → length (path_in s Pg1Database) ≤ 1024
unfolding value row
database_short s = short (in_force s Pg1Database)

-- both fit into one message
pub names_fit : (s : Source) (user database : Text) → user ≡ path_in s Pg1User → database ≡ path_in s Pg1Database → length user + length database + 97 < 2 ^ 32
names_fit s user database is also = omega (arith, ap length is, ap length also, user_short s, database_short s)

-- ---- folders

path_short : (o : Option Text) → length (or_else [] (text_in (option_and_then (value_of table.path) o))) ≤ 1024
path_short None = omega arith
path_short (Some t) = within t (is_text t) refl

data_short : (s : Source) → length (path_in s Pg1Path) ≤ 1024
unfolding value row
data_short s = path_short (in_force s Pg1Path)

repository_short : (s : Source) → length (path_in s Repo1Path) ≤ 1024
unfolding value row
repository_short s = path_short (in_force s Repo1Path)

-- the length of each fits into 16 bits
pub folders_fit : (s : Source) (folder repository : Text) → folder ≡ path_in s Pg1Path → repository ≡ path_in s Repo1Path → (length folder < 2 ^ 16) × (length repository < 2 ^ 16)
folders_fit s folder repository is also = (omega (arith, ap length is, data_short s), omega (arith, ap length also, repository_short s))
