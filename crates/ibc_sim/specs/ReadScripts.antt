-- Texts that are read as scripts.
use Rattle.ibc_ids.specs.Texts.{Text}
use Rattle.ibc_script.specs.ScriptValues.{IsScriptText, ScriptContent}

-- the text is a script's
abbrev pub ReadsAsScript : Text → Type 0
ReadsAsScript text = (content : ScriptContent) × IsScriptText text content
