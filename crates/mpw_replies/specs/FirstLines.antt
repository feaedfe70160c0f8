-- The outcome of a request.
use Rattle.std.specs.Prelude.{length}
use Rattle.mpw_trail.specs.declared.verdict.FirstLine.{FirstLine}
use Rattle.mpw_trail.specs.declared.verdict.FirstLine.TheVariants as said
use Rattle.mpw_replies.specs.declared.reply.Reply.{Reply}
use Rattle.mpw_replies.specs.declared.reply.Reply.TheVariants as reply

-- What the first line of a reply says.
abbrev pub first_line_of : Reply → FirstLine
first_line_of (reply.Ok lines) = said.Ok (length lines)
first_line_of (reply.Denied why) = said.Denied why
first_line_of (reply.Refused why) = said.Refused why
