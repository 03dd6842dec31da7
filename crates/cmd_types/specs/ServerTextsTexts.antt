-- The status and the message of each refusal of a server's answer (own).
use Rattle.std.specs.Prelude.{ℕ, ◌++◌, codes, decimal, string_bytes}
use Rattle.base_model.specs.Text.{Text}
use Rattle.server_talk.specs.declared.session.fault.ServerFault.{ServerFault}
use Rattle.server_talk.specs.declared.session.fault.ServerFault.TheVariants.{NoMemory, ServerConnection, ServerSaid, AuthUnsupported, ServerForm, ServerEnded, SystemMismatch, TooLong, TooMany}
use Rattle.cmd_types.specs.StagesTexts.{shown}

-- an error that the server sent: its code and its text
abbrev pub said_text : Text → Text → Text
said_text code text = codes "server: [" ++ (shown code ++ (codes "] " ++ shown text))

-- the status and the line of what the server is refused for
abbrev pub server_status : ServerFault → ℕ
server_status (SystemMismatch kept found) = 47
server_status (ServerSaid code text) = 48
server_status (AuthUnsupported code) = 49
server_status (ServerForm at) = 50
server_status (ServerEnded at) = 51
server_status (TooLong length) = 70
server_status (TooMany limit) = 71
server_status ServerConnection = 83
server_status NoMemory = 90

abbrev pub server_message : ServerFault → Text
server_message (SystemMismatch kept found) =
    codes "control file has system " ++ (decimal kept ++ (codes ", server has system " ++ decimal found))
server_message (ServerSaid code text) = said_text (string_bytes code) (string_bytes text)
server_message (AuthUnsupported code) = codes "authentication " ++ (decimal code ++ codes " is not supported")
server_message (ServerForm at) = codes "server byte " ++ (decimal at ++ codes " is not valid")
server_message (ServerEnded at) = codes "server ended after " ++ (decimal at ++ codes " bytes")
server_message (TooLong length) = codes "'server' is longer than 16777216"
server_message (TooMany limit) = codes "more than " ++ decimal limit
server_message ServerConnection = codes "server connection failed"
server_message NoMemory = codes "out of memory"
