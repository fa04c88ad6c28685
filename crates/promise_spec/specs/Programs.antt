-- Programs of silos, and which texts are programs.
pub use Rattle.program_file.specs.declared.faults.ProgramFault.{ProgramFault}
pub use Rattle.program_file.specs.declared.faults.ProgramFault.TheVariants.{Unparsed, Unchecked}
pub use Rattle.program_file.specs.Programs.{Program, text_limit, IsChecked, shape_in, parse_place, check_place, fault_place, unless_fault, checked_in, program_in}
