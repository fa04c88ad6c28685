use Rattle.promise_examples.proofs.Readings.{logs_read, versions_read, short, header_gate, other_magic, silo_first, program_short, program_cut, program_less, program_long, program_first, program_before_header, header_byte, next_header_byte, header_first}
use Rattle.promise_examples.proofs.BadTexts.{texts_read}
use Rattle.promise_examples.proofs.examples.folders_read_so.Goals as goal

pub returns-clause-logged : goal.returns-clause-logged
returns-clause-logged c = logs_read.deposit

pub returns-clause-closed : goal.returns-clause-closed
returns-clause-closed c = logs_read.closed

pub returns-clause-short : goal.returns-clause-short
returns-clause-short c = short

pub returns-clause-header_gate : goal.returns-clause-header_gate
returns-clause-header_gate c = header_gate

pub returns-clause-other_magic : goal.returns-clause-other_magic
returns-clause-other_magic c = other_magic

pub returns-clause-header_byte : goal.returns-clause-header_byte
returns-clause-header_byte c = header_byte

pub returns-clause-next_header_byte : goal.returns-clause-next_header_byte
returns-clause-next_header_byte c = next_header_byte

pub returns-clause-header_first : goal.returns-clause-header_first
returns-clause-header_first c = header_first

pub returns-clause-torn : goal.returns-clause-torn
returns-clause-torn c = logs_read.torn

pub returns-clause-cut : goal.returns-clause-cut
returns-clause-cut c = logs_read.cut

pub returns-clause-count : goal.returns-clause-count
returns-clause-count c = logs_read.count

pub returns-clause-unit : goal.returns-clause-unit
returns-clause-unit c = logs_read.unit

pub returns-clause-great_unit : goal.returns-clause-great_unit
returns-clause-great_unit c = logs_read.great_unit

pub returns-clause-origin : goal.returns-clause-origin
returns-clause-origin c = logs_read.origin

pub returns-clause-called_type : goal.returns-clause-called_type
returns-clause-called_type c = logs_read.type

pub returns-clause-method : goal.returns-clause-method
returns-clause-method c = logs_read.method

pub returns-clause-params : goal.returns-clause-params
returns-clause-params c = logs_read.params

pub returns-clause-arguments : goal.returns-clause-arguments
returns-clause-arguments c = logs_read.arguments

pub returns-clause-argument : goal.returns-clause-argument
returns-clause-argument c = logs_read.argument

pub returns-clause-outcome : goal.returns-clause-outcome
returns-clause-outcome c = logs_read.result

pub returns-clause-value : goal.returns-clause-value
returns-clause-value c = logs_read.value

pub returns-clause-written_type : goal.returns-clause-written_type
returns-clause-written_type c = logs_read.written_type

pub returns-clause-order : goal.returns-clause-order
returns-clause-order c = logs_read.order

pub returns-clause-less : goal.returns-clause-less
returns-clause-less c = logs_read.short

pub returns-clause-trailing : goal.returns-clause-trailing
returns-clause-trailing c = logs_read.trailing

pub returns-clause-second_block : goal.returns-clause-second_block
returns-clause-second_block c = logs_read.later

pub returns-clause-first_block : goal.returns-clause-first_block
returns-clause-first_block c = logs_read.earlier

pub returns-clause-great_session : goal.returns-clause-great_session
returns-clause-great_session c = logs_read.great_session

pub returns-clause-lower_session : goal.returns-clause-lower_session
returns-clause-lower_session c = logs_read.falls

pub returns-clause-session_first : goal.returns-clause-session_first
returns-clause-session_first c = logs_read.session_first

pub returns-clause-version_cut : goal.returns-clause-version_cut
returns-clause-version_cut c = versions_read.cut

pub returns-clause-other_unit : goal.returns-clause-other_unit
returns-clause-other_unit c = versions_read.owner

pub returns-clause-fields : goal.returns-clause-fields
returns-clause-fields c = versions_read.fields

pub returns-clause-tag : goal.returns-clause-tag
returns-clause-tag c = versions_read.tag

pub returns-clause-second_cut : goal.returns-clause-second_cut
returns-clause-second_cut c = versions_read.cut_behind

pub returns-clause-second_tag : goal.returns-clause-second_tag
returns-clause-second_tag c = versions_read.behind

pub returns-clause-first_version : goal.returns-clause-first_version
returns-clause-first_version c = versions_read.earlier

pub returns-clause-lower_grain : goal.returns-clause-lower_grain
returns-clause-lower_grain c = versions_read.lower

pub returns-clause-upper_grain : goal.returns-clause-upper_grain
returns-clause-upper_grain c = versions_read.upper

pub returns-clause-program_short : goal.returns-clause-program_short
returns-clause-program_short c = program_short

pub returns-clause-program_cut : goal.returns-clause-program_cut
returns-clause-program_cut c = program_cut

pub returns-clause-program_less : goal.returns-clause-program_less
returns-clause-program_less c = program_less

pub returns-clause-program_long : goal.returns-clause-program_long
returns-clause-program_long c = program_long

pub returns-clause-bad_token : goal.returns-clause-bad_token
returns-clause-bad_token c = texts_read.bad_token

pub returns-clause-unexpected : goal.returns-clause-unexpected
returns-clause-unexpected c = texts_read.unexpected

pub returns-clause-ended : goal.returns-clause-ended
returns-clause-ended c = texts_read.ended

pub returns-clause-twice : goal.returns-clause-twice
returns-clause-twice c = texts_read.twice

pub returns-clause-silo_first : goal.returns-clause-silo_first
returns-clause-silo_first c = silo_first

pub returns-clause-program_first : goal.returns-clause-program_first
returns-clause-program_first c = program_first

pub returns-clause-program_before_header : goal.returns-clause-program_before_header
returns-clause-program_before_header c = program_before_header

pub returns-clause-block_first : goal.returns-clause-block_first
returns-clause-block_first c = versions_read.block_first
